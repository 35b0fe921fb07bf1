pub mod Among
pub mod BitLemmas
pub mod Rising
pub mod SizeLemmas
