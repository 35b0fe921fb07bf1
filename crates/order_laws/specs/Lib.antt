pub mod Examples
pub mod Opened
pub mod Places
pub mod Sides
pub mod Read
