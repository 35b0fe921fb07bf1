pub mod Draws
pub mod Generated
pub mod Counted
pub mod Examples
