pub mod Stamps
pub mod Versions
pub mod Numbers
