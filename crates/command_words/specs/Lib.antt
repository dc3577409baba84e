pub mod Lines
pub mod Roots
pub mod Terminal
pub mod Twice
pub mod Usages
pub mod Values
pub mod Words
