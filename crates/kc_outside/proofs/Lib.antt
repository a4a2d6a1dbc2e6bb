pub mod AddLemmas
pub mod MemLemmas
