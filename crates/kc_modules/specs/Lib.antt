pub mod Lines
pub mod Lists
pub mod Parts
pub mod Shapes
pub mod Typed
pub mod Views
