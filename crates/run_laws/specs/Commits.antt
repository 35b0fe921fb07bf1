pub mod Laws
pub mod Shares
pub mod Numbers
pub mod Rounds
