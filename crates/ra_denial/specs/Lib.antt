pub mod Denials
pub mod Halts
pub mod Places
pub mod Stops
pub mod Writing
