pub mod Sent
pub mod Calls
