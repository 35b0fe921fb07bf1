pub mod HeadLemmas
pub mod SlotLemmas
pub mod WalkLemmas
pub mod PlaceLemmas
pub mod EncodeLemmas
pub mod GatherLemmas
