pub mod CpuLaws
pub mod CpuLemmas
pub mod CpuObjectLemmas
pub mod ScanLaws
pub mod ScanLemmas
