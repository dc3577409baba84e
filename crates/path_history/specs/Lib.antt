pub mod Histories
pub mod Lines
pub mod Logs
pub mod Places
pub mod Stretches
