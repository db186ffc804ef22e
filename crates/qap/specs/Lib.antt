pub mod Setting
pub mod Polynomials
pub mod Answers
pub mod Refusals
pub mod Calls
pub mod Demands
pub mod Marked
pub mod Promises
