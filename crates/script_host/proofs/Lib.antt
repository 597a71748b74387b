mod Examples
pub mod HostLemmas
pub mod NoteLemmas
