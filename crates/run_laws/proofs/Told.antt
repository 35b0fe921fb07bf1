pub mod Splits
pub mod Tells
