pub mod Laws
pub mod Moments
