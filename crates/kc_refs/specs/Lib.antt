pub mod Lines
pub mod Pace
pub mod Parts
pub mod Progress
pub mod Put
pub mod Says
pub mod Stops
