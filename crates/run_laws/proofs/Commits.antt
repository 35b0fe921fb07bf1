pub mod Steps
pub mod Histories
pub mod Sorted
pub mod Shares
pub mod Numbers
pub mod Tables
pub mod Rounds
