pub mod Greeted
pub mod Served
