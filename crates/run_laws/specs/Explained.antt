pub mod Reads
pub mod Timelines
