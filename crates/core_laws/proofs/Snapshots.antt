pub mod BlockReads
pub mod MoveSights
pub mod Sights
pub mod RangeKeys
