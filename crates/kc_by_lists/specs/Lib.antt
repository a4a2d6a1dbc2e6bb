pub mod Apart
pub mod Ends
pub mod Keeping
pub mod Laws
pub mod Same
pub mod Tests
pub mod Pids
