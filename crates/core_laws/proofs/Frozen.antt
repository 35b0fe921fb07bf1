pub mod Loose
pub mod Frozen
pub mod Stamps
pub mod Phases
pub mod Moments
