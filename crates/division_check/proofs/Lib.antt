pub mod DivisionChecks
