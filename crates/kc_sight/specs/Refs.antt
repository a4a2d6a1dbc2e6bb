pub mod Holding
pub mod Stops
pub mod Writings
pub use Rattle.kc_elf.specs.Stays
pub use Rattle.kc_outside.specs.Files
