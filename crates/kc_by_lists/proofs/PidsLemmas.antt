pub mod ListLaws
pub mod Making
pub mod Telling
