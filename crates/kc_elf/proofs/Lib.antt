pub mod BoundLemmas
pub mod HeaderLemmas
pub mod SpellingLemmas
pub mod CoreLaws
