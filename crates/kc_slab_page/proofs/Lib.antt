pub mod CacheLemmas
pub mod EnumLemmas
pub mod PageLemmas
pub mod SlabLaws
pub mod FramesLemmas
