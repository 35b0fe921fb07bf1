pub mod Upkeep
pub mod Shown
pub mod Readers
pub mod Replies
pub mod Examples
