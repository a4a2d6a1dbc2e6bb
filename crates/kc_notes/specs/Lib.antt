pub mod Info
pub mod Laws
pub mod Notes
pub mod Spelling
pub mod Steps
pub mod Values
