pub mod Confirmed
pub mod Elements
pub mod Kinds
pub mod Laws
pub mod Numbers
