pub mod Values
pub mod Cells
pub mod Columns
pub mod Images
pub mod Examples
