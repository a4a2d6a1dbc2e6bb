pub mod Despite
pub mod Finding
pub mod Grouping
pub mod HoldLaws
