pub mod FourLaws
pub mod OneResult
pub mod Refusing
pub mod SumsCount
