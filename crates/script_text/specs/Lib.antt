pub mod Rounds
pub mod Answers
pub mod Spellings
pub mod Tables
pub mod Heads
pub mod Verbs
pub mod Commands
pub mod Partings
