pub mod Checks
pub mod Copying
pub mod Holding
pub mod Numbers
pub mod Walks
