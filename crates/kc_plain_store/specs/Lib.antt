pub mod Counts
pub mod Faults
pub mod Kept
pub mod Seen
pub mod Shapes
pub mod ViewLaws
