pub mod WordEnds
pub mod Decimals
pub mod LineEnds
pub mod TextSpellings
pub mod TextPieces
