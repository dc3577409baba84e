pub mod Makes
pub mod Effects
pub mod Normal
pub mod Paths
pub mod Faultless
