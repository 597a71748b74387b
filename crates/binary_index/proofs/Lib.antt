pub mod Positions
pub mod EntryLemmas
pub mod KeyLemmas
pub mod PlainLemmas
pub mod SaidLemmas
pub mod IndexLemmas
