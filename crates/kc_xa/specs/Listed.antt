pub mod Answers
pub mod Entries
pub mod Falling
pub mod Laws
