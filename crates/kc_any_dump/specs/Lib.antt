pub mod Causes
pub mod Files
pub mod Laws
pub mod Lines
