pub mod Sums
pub mod Parts
pub mod Holds
pub mod Places
