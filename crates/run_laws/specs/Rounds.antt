pub mod Rounds
pub mod Lines
pub mod Fronts
pub mod Texts
pub mod Working
