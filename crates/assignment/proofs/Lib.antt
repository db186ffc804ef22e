pub mod Accepted
pub mod Assigned
pub mod Places
