pub mod ReaderLemmas
pub mod JsonLemmas
