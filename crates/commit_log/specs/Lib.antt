pub mod Commits
pub mod Faults
pub mod Laws
pub mod Readings
