pub mod Collecting
pub mod Growing
pub mod Pacing
pub mod Planting
pub mod Single
