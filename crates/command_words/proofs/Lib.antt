pub mod Lines
pub mod Refusing
pub mod Showing
pub mod Sources
pub mod Spelled
