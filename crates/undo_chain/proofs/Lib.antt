pub mod Pairs
pub mod Order
pub mod Stamps
pub mod Views
pub mod Ends
pub mod Numbers
pub mod Commits
pub mod Rows
