mod BodyLemmas
mod ImageLemmas
mod MessageLemmas
mod SmallBatches
