mod Gates
pub mod Records
mod Steps
