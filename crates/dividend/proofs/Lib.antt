pub mod BlindedLaws
pub mod WholeLaws
pub mod DividendLaws
pub mod QuotientLaws
pub mod TargetWords
pub mod OneResult
