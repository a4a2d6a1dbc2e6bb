pub mod BitsLemmas
pub mod PidLemmas
pub mod SlabLemmas
