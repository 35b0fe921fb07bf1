pub mod Batches
pub mod Dicts
