pub mod Meeting
pub mod Tested
