pub mod Laws
pub mod Names
pub mod Nearest
pub mod Shapes
pub mod Symbols
pub mod Text
pub mod Told
