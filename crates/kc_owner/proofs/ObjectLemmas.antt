pub mod SlabLemmas
pub mod ObjectLaws
pub mod KeyLemmas
pub mod HoldLaws
