pub mod SlabsLemmas
pub mod SlabsLaws
