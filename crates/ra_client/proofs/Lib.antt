pub mod Carried
pub mod Fair
pub mod Fitting
pub mod Identities
pub mod Limits
pub mod Taking
pub mod Viewing
