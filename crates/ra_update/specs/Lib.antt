pub mod Alike
pub mod Entries
pub mod Reported
pub mod Sent
pub mod Updated
pub mod Updates
