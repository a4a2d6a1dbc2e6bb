pub mod BackLemmas
pub mod BitLemmas
pub mod LinkLemmas
pub mod MadeLemmas
pub mod SlotLemmas
pub mod StandLaws
