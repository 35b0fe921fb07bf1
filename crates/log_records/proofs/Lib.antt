pub mod LowBytes
pub mod Exits
pub mod Rows
pub mod Writes
pub mod Items
pub mod Rising
pub mod Sets
pub mod Written
