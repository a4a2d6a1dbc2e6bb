pub mod Bytes
pub mod Guards
pub mod Laws
pub mod Objects
