pub mod Chained
pub mod Changing
pub mod Locks
pub mod Seen
pub mod Showing
pub mod Crosses
pub mod Replacing
pub mod RowCrosses
