pub mod PaceLemmas
pub mod PartLemmas
pub mod Pieces
pub mod ProgressExamples
pub mod ProgressLemmas
pub mod PutLemmas
pub mod StoreLemmas
