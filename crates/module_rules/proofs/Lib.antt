pub mod FirstItemLemmas
pub mod GlobalLemmas
pub mod SizeLemmas
