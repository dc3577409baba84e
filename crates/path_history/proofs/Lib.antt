pub mod Gathering
pub mod LinesOf
pub mod Lookups
pub mod Pegs
pub mod Sources
pub mod Stretching
pub mod Telling
