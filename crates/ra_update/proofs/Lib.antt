pub mod Alike
pub mod Makes
pub mod Nested
pub mod Told
pub mod Untold
