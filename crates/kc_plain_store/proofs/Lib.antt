pub mod FaultLemmas
pub mod PageLemmas
pub mod ViewLemmas
