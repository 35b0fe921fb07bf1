pub mod Crashes
pub mod Examples
pub mod Faults
pub mod FileSteps
pub mod Files
pub mod Memory
pub mod Tears
