pub mod Histories
pub mod Dates
pub mod Answers
pub mod Tellings
pub mod Laws
pub mod Seeking
pub mod Writing
