pub mod Fits
pub mod Heard
pub mod Masters
pub mod Mirrored
pub mod Sessions
pub mod Taken
