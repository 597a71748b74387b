pub mod AlikeLemmas
pub mod PlainLemmas
pub mod HostLemmas
pub mod RootLemmas
