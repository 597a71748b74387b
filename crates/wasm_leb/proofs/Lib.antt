pub mod ItemLemmas
pub mod NameLemmas
pub mod NumberLemmas
pub mod Powers
pub mod Texts
