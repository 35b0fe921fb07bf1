pub mod Timeline
pub mod Printed
pub mod Forms
pub mod Fronts
pub mod Examples
