pub mod Shown
pub mod Added
pub mod Showing
pub mod Examples
