mod Examples
pub mod ModuleLemmas
