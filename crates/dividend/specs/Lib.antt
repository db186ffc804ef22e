pub mod Blinded
pub mod Dividend
