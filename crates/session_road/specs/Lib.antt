pub mod Ranges
pub mod Served
pub mod Told
