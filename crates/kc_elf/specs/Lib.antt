pub mod Answers
pub mod CoreFile
pub mod FileHeader
pub mod Headers
pub mod Laws
pub mod Parts
pub mod Spelling
pub mod Stays
