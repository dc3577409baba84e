pub mod Standing
pub mod Listed
pub mod Fronts
pub mod Versions
