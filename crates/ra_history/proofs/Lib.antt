pub mod Sharing
pub mod Located
pub mod Logs
