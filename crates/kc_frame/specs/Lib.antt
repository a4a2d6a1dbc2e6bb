pub mod Blocks
pub mod Frames
pub mod Laws
pub mod Shapes
pub mod Text
pub mod Words
pub mod Zones
