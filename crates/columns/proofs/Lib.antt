pub mod CoefficientLaws
pub mod ColumnLaws
pub mod MiddleLaws
