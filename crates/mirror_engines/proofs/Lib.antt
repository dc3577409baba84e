pub mod Bringing
pub mod Devices
pub mod Histories
pub mod Running
pub mod Telling
pub mod Worlds
