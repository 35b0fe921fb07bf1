pub mod Stays
pub mod GoesOn
pub mod Long
pub mod SoFar
pub mod Schemas
pub mod Over
