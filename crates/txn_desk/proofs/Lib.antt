pub mod LeastStart
pub mod Tables
