pub mod Slices
pub mod Words
pub mod ScaledLaws
pub mod FactorLaws
pub mod ProductLaws
pub mod InterpolationLaws
pub mod DivisionLaws
pub mod KernelLaws
