pub mod AllLinesLemmas
pub mod FindLemmas
pub mod FoundLemmas
pub mod IndexLemmas
pub mod LayerLemmas
pub mod LineLemmas
pub mod ListingLemmas
pub mod MemberLemmas
pub mod PathLemmas
pub mod PlaceLemmas
pub mod SearchLemmas
pub mod SpellingLemmas
mod MemberPathLemmas
