pub mod FileLaws
pub mod Places
pub mod Proper
pub mod ReadParts
pub mod Sized
