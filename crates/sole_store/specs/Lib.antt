pub mod Calls
pub mod Examples
pub mod Sole
pub mod Writing
