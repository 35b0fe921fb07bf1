pub mod Numbers
pub mod Fronts
pub mod Values
pub mod Commits
pub mod Unique
mod Samples
