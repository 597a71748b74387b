pub mod ListLemmas
pub mod LeadLemmas
pub mod WrittenLemmas
pub mod BegunLemmas
pub mod LeadingLemmas
