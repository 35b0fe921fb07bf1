pub mod BitmapLemmas
pub mod NumberLemmas
pub mod ArrowLemmas
pub mod StripLemmas
