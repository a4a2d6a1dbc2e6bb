pub mod CountedLaws
pub mod FormatLaws
pub mod LineLaws
mod LoopLemmas
pub mod ReaderLaws
