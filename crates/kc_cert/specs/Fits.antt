pub mod Fits
pub mod Shapes
pub mod Size
pub mod Walked
