pub mod CallEffect
pub mod Calls
pub mod Faults
pub mod Grammar
pub mod Laws
pub mod Nesting
pub mod Recorded
