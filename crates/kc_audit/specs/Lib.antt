pub mod Audits
pub mod Reached
