pub mod Laws
pub mod Looking
pub mod OfCache
pub mod Slabs
pub mod Text
