pub mod Commits
pub mod Rows
pub mod Pieces
