pub mod ObjectListLemmas
pub mod WriteLemmas
pub mod SlotLemmas
pub mod CopyLemmas
pub mod TableLemmas
pub mod LookUpLemmas
pub mod ElementLemmas
