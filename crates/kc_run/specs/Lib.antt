pub mod Each
pub mod Laws
pub mod Parts
pub mod Tally
