pub mod Limits
pub mod Circuit
pub mod Reader
pub mod WellFormed
pub mod Totals
