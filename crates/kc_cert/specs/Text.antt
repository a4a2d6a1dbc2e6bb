pub mod CertTexts
pub mod Drops
pub mod Readings
