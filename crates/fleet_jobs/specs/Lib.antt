pub mod Answers
pub mod Faults
pub mod Fleets
pub mod Laws
pub mod Places
pub mod Queue
