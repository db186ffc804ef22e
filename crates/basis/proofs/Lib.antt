pub mod WeightLaws
pub mod PassLaws
pub mod ColumnLaws
pub mod OneAnswer
