pub mod Lasts
pub mod Places
pub mod Keys
pub mod Newest
pub mod Firsts
