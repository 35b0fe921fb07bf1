pub mod Choosing
pub mod Spelling
pub mod Steps
pub mod Ends
pub mod Offsets
pub mod Cells
