pub mod File
pub mod Join
pub mod Laws
pub mod Split
