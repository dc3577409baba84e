pub mod ChangeRefusals
pub mod Dates
pub mod Entries
pub mod Held
pub mod Laws
pub mod Refusals
pub mod Repository
pub mod Staging
