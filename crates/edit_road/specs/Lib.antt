pub mod Laws
pub mod Receiving
pub mod Sending
pub mod Sent
