pub mod Answers
pub mod Certificates
pub mod Laws
