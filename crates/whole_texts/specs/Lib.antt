pub mod Bases
pub mod Laws
pub mod Making
pub mod Refusals
pub mod Settled
pub mod Whole
