pub mod Passes
pub mod BasisAt
pub mod Column
