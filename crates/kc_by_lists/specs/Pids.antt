pub mod Laws
pub mod Tests
