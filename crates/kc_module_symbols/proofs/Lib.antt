pub mod SymbolLaws
pub mod SymbolLemmas
