pub mod Exports
pub mod Groups
pub mod Writers
