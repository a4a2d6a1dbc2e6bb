pub mod Finding
pub mod Going
pub mod Loops
pub mod Making
pub mod Marking
pub mod Starting
pub mod Steps
