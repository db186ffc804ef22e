pub mod Small
pub mod LongSection
pub mod OneResult
pub mod Promises
