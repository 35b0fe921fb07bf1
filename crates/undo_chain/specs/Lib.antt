pub mod Entry
pub mod Visible
pub mod Lawful
pub mod Conflict
pub mod State
pub mod Stamped
pub mod Worked
