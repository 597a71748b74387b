pub mod RecordLemmas
pub mod StatusLemmas
pub mod StoreLemmas
pub mod TapeTexts
pub mod TextLemmas
