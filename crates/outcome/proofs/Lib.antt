pub mod Verdict
pub mod Asked
pub mod Same
pub mod Scan
pub mod Near
