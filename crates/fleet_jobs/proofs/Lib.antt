pub mod Ends
pub mod Homes
pub mod Moves
pub mod Rows
pub mod Tickets
