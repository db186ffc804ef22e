pub mod AddScaled
pub mod Factor
pub mod Product
pub mod Division
pub mod Interpolation
