pub mod Ports
pub mod Runs
pub mod Seats
pub mod Shown
