pub mod Histories
pub mod Infos
pub mod Lines
pub mod Ports
pub mod Runs
pub mod Worlds
