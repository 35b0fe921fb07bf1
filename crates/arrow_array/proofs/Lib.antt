pub mod ArrayLemmas
mod BitmapLemmas
mod CellLemmas
pub mod Splits
mod ValueLemmas
