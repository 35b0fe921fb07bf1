pub mod Checks
pub mod Metadata
pub mod Columns
pub mod Streams
pub mod Samples
pub mod DictSamples
