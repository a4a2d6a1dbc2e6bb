pub mod NearestLemmas
pub mod ReadLemmas
pub mod EntryLemmas
pub mod SightLaws
pub mod NearestLaws
pub mod HolderLemmas
mod RefsLemmas
