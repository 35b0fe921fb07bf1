pub mod Owned
pub mod Steps
pub mod Laws
