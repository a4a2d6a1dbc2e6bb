pub mod CachesBy
pub mod Chains
pub mod Given
pub mod Laws
pub mod Passing
pub mod PidsBy
pub mod TasksBy
