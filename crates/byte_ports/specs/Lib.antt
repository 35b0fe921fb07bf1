pub mod Adapters
pub mod Calls
pub mod Doubles
pub mod FaultPlan
pub mod InputFault
