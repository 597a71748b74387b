pub mod EqualityLemmas
