pub mod Broken
pub mod Counts
pub mod Faults
pub mod Seen
pub mod Shapes
pub mod StoreLaws
