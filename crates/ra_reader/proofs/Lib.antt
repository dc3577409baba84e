pub mod Adding
pub mod Turning
pub mod Opening
pub mod Exits
pub mod Laws
pub mod Handed
