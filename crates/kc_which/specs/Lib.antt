pub mod CacheRings
pub mod Ends
pub mod Firsts
pub mod Laws
pub mod TaskRings
