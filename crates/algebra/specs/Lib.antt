pub mod Congruence
pub mod Prime
pub mod Polynomial
pub mod Points
pub mod Blinding
pub mod Combination
pub mod Basis
