pub mod Totals
pub mod Lanes
pub mod Intervals
pub mod Examples
