mod Chunks
mod EditRead
mod EditSays
mod Told
pub mod Receiving
pub mod Refusing
pub mod Steps
pub mod DeltaDoes
pub mod DeltaDrives
pub mod DeltaItems
pub mod DeltaText
pub mod DeltaStanding
pub mod DeltaSays
pub mod Drives
pub mod NothingDue
pub mod OneEdit
pub mod WrittenReceived
pub mod Asked
pub mod NotRefused
pub mod NotRead
pub mod OwnRefusals
pub mod Discarded
pub mod LeftOpen
