pub mod BesideLaws
mod BesideLemmas
mod CheckedLemmas
pub mod FactLaws
pub mod FindingLemmas
pub mod MatchLemmas
pub mod OutcomeLaws
mod OwnLemmas
pub mod TypesOfNames
