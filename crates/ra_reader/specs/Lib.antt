pub mod Calls
pub mod Standings
pub mod Sessions
pub mod Takings
pub mod Serving
pub mod Laws
