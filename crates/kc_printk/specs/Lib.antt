pub mod Answers
pub mod Blocks
pub mod Log
pub mod Note
pub mod Records
pub mod Rings
pub mod Steps
pub mod Texts
