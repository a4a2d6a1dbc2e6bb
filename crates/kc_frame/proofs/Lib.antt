pub mod BlockLemmas
pub mod FrameLaws
pub mod ZoneLemmas
