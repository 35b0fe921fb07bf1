pub mod FirstRows
pub mod FirstPlaces
pub mod FirstFollows
pub mod Opening
pub mod Logs
pub mod Refusals
