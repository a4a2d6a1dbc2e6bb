mod ByteLemmas
mod SaysLemmas
pub mod NearLemmas
pub mod ShapeLemmas
pub mod TextLemmas
pub mod ToldLemmas
