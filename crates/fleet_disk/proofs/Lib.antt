pub mod AboveLemmas
pub mod AheadLemmas
pub mod Kept
pub mod Lasting
pub mod Lending
pub mod Moments
