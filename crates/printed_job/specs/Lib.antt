pub mod Lines
pub mod TextUpTo
pub mod Promises
