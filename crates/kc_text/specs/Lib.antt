pub mod Answers
pub mod Compose
pub mod Counted
pub mod Format
pub mod Readers
pub mod Reading
pub mod Text
