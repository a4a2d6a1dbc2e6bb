pub mod Complete
pub mod Single
pub mod Text
pub mod Fits
pub mod Rechecking
pub mod Certifying
