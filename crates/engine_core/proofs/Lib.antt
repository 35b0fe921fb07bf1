pub mod Asked
pub mod Counts
pub mod Told
pub mod Wholes
