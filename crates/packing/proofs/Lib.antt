pub mod PackingLaws
pub mod Unpacking
