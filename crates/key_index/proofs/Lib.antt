pub mod Lookups
pub mod Ordered
