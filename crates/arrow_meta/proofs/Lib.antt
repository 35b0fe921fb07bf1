mod FieldLemmas
mod HeaderLemmas
mod PairLemmas
mod ReadLemmas
