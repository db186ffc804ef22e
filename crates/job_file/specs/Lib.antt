pub mod File
pub mod Given
pub mod Read
