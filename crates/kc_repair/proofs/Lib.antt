mod Alone
mod Beside
mod Changing
mod Counts
mod Determined
mod FirstWalks
mod Left
mod Parts
mod Standing
mod Told
mod Trying
mod Unchanged
mod Ups
pub mod SuspectLemmas
