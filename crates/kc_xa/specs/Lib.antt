pub mod Laws
pub mod Nodes
pub mod Steps
pub mod Listed
