pub mod Columns
pub mod Encoded
pub mod Heads
pub mod Places
pub mod Starts
pub mod Values
pub mod Walks
