pub mod GuardLaws
pub mod GuardLemmas
