pub mod PartValues
pub mod BlindedValues
pub mod OneResult
