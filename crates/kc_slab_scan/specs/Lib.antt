pub mod CpuLaws
pub mod CpuLists
pub mod CpuObjects
pub mod CpuScans
pub mod CpuShapes
pub mod Cpus
pub mod Laws
pub mod Scans
