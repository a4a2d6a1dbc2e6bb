pub mod BlockLemmas
pub mod StoreLemmas
pub mod WritingLemmas
pub mod NearLemmas
