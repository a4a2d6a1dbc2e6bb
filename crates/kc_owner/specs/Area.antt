pub mod Areas
pub mod Laws
pub mod Modules
pub mod Processors
pub mod Shapes
pub mod Stacks
