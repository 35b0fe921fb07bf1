pub mod Order
pub mod Pieces
pub mod Places
pub mod Dues
pub mod Walk
