pub mod ResultLemmas
pub mod Repeats
pub mod SlotLemmas
pub mod BlockLemmas
pub mod Owed
