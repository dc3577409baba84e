pub mod Adding
pub mod Causes
pub mod Places
pub mod Stops
