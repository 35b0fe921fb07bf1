pub mod Commits
pub mod Handing
pub mod Changing
pub mod Room
pub mod Checking
