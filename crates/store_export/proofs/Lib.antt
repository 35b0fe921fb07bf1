pub mod Blocks
pub mod Breaking
pub mod Course
pub mod Messages
