pub mod Causes
pub mod Counted
pub mod Lending
pub mod Memory
pub mod Sinks
