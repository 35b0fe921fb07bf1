pub mod Rule
pub mod Desk
