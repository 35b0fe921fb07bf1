pub mod Kept
pub mod Met
pub mod Readings
