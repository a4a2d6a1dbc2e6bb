pub mod ChainShown
mod Few
pub mod Finite
pub mod Pairs
pub mod Passed
pub mod Reached
pub mod Rising
pub mod Shown
pub mod Stops
pub mod Stored
pub mod Table
pub mod Told
pub mod Whole
mod Near
