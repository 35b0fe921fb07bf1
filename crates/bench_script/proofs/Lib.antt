pub mod Ranges
pub mod Columns
pub mod Transactions
pub mod Fits
pub mod Fine
pub mod Short
pub mod Read
