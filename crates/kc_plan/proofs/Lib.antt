pub mod DocumentLemmas
pub mod LinkLaws
pub mod LinkLemmas
pub mod ListLemmas
pub mod PlanLaws
pub mod StepLemmas
mod SymbolLaws
pub mod WrittenLaws
