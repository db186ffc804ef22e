pub mod Assignment
pub mod WellFormed
