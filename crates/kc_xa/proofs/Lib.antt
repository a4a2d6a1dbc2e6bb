pub mod Behind
pub mod Going
pub mod Growing
pub mod Heads
pub mod NodeSites
pub mod Quiet
pub mod Rising
pub mod Rows
pub mod SameWords
pub mod Shaping
pub mod Showing
pub mod Sites
pub mod SlotWords
pub mod Spending
pub mod Standing
pub mod Staying
pub mod Whole
mod ListedLemmas
