mod Runs
mod Written
mod Classes
mod Spelled
mod Canon
mod Read
mod Weighing
mod GoesOn
mod Causes
mod ByteFaults
pub mod Streaming
