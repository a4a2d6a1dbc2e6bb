pub mod Faults
pub mod Laws
pub mod Listed
pub mod Nodes
pub mod Steps
