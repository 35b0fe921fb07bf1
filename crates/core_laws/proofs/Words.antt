pub mod Numbers
pub mod Bodies
pub mod Turning
pub mod Keeping
