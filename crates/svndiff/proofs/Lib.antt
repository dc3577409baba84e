pub mod DeltaCauses
pub mod DeltaMade
pub mod DeltaRead
pub mod DeltaRuns
pub mod DeltaStanding
pub mod DeltaTexts
mod Standing
pub mod Read
pub mod Runs
pub mod Spelled
pub mod Written
