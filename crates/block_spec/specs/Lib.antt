pub mod Fitting
pub mod Slots
pub mod Bodies
pub mod Looks
pub mod Examples
