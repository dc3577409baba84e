pub mod Stops
pub mod Rows
pub mod Logs
pub mod Locations
pub mod Laws
