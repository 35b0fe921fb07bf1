mod BatchLemmas
mod FieldLemmas
mod LookLemmas
mod OffsetLemmas
mod RangeLemmas
pub mod ReadingLemmas
mod ViewLemmas
mod WholeLemmas
