pub mod Elements
pub mod Laws
pub mod Others
pub mod Repairs
pub mod Suspect
