pub mod FillLemmas
pub mod SectionLemmas
