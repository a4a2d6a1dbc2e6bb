pub mod Passing
pub mod Shaping
