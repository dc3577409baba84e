mod BlockSizes
mod CanonRead
mod Converse
mod Grows
mod HeadBytes
mod HeadLines
mod HeadModes
mod Identities
mod Kept
mod Lines
mod PathLines
mod Records
mod StreamRuns
mod SumLines
mod Writes
mod Written
pub mod Causes
