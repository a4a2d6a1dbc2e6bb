pub mod Few
pub mod Fitting
pub mod Judging
pub mod Ordered
pub mod Right
pub mod Spending
pub mod Unrolling
