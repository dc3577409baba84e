pub mod Kinds
pub mod Entries
pub mod Versions
pub mod Rows
