mod Examples
mod LawLemmas
mod NameLemmas
mod OrderLemmas
mod ResolvedLemmas
