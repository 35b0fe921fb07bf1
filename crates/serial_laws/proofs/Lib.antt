pub mod Meets
pub mod Steps
pub mod Serial
pub mod Members
pub mod Whole
pub mod Walked
pub mod Alone
pub mod OneRun
