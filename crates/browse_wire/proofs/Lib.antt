pub mod Misses
pub mod Placed
pub mod AskRead
pub mod UrlParts
pub mod UrlsRead
pub mod ReportRead
pub mod Written
