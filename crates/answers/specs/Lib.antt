pub mod RowsAnswered
