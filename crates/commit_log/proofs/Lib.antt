mod Appends
mod FileFronts
mod Groups
mod OneReading
pub mod Watching
