pub mod Keeping
pub mod Refused
pub mod Running
pub mod Shown
