mod BrokenLemmas
pub mod SeenLemmas
