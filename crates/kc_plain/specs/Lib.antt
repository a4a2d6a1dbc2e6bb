pub mod Fields
pub mod Head
pub mod Pages
pub mod ReadBack
pub mod Root
pub mod Unpack
