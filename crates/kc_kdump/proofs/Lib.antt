pub mod ByteLemmas
pub mod CutLemmas
pub mod FrameLemmas
pub mod MarkedLaws
pub mod RunLemmas
pub mod ThereLemmas
pub mod WalkLemmas
