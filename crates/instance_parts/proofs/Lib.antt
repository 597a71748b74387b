mod AddedLemmas
mod EndLemmas
mod ListLemmas
mod SizeLemmas
mod TakingLemmas
