pub mod RowLemmas
pub mod ShowingLemmas
