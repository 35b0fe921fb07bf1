mod Anything
pub mod Laying
pub mod Moments
mod Past
pub mod Told
mod Torn
