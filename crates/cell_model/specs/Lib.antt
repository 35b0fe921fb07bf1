pub mod Widths
pub mod Kinds
pub mod Values
pub mod Rows
pub mod Schemas
pub mod Examples
pub mod Kept
