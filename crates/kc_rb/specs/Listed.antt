-- Red-black trees by lists of their numbers.
pub mod Collected
pub mod Laws
pub mod Trees
