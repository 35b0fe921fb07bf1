pub mod Asks
pub mod Core
pub mod Costs
pub mod Laws
pub mod Runs
