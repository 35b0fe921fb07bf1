pub mod Candidates
pub mod Kept
