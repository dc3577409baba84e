pub mod LawsOf
pub mod Limited
pub mod Lists
pub mod Lookups
pub mod MadeTrees
pub mod Ready
pub mod Roots
pub mod SetsThere
