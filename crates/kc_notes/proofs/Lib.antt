pub mod LineLemmas
pub mod PlaceLemmas
pub mod SearchLemmas
pub mod NoteLaws
