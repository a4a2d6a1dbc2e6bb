pub mod FieldLemmas
pub mod HeadLemmas
pub mod PageLaws
pub mod ReadBackLaws
pub mod ReadBackLemmas
pub mod RootLemmas
pub mod UnpackLemmas
