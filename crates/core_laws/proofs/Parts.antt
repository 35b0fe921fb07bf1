pub mod Standing
pub mod Lasting
pub mod MoveLeaves
pub mod Leaving
