pub mod CallLemmas
pub mod NestingLemmas
