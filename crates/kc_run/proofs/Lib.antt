mod Arrays
mod Checking
pub mod Counting
pub mod Few
pub mod Going
mod KindLaws
pub mod Parts
mod RootLaws
mod Rows
mod Showing
mod Standing
pub mod Tallying
pub mod Unrolling
