pub mod Making
pub mod Raising
pub mod Taking
