pub mod CallLemmas
pub mod ChangeLemmas
pub mod GrowthLemmas
pub mod InstanceLemmas
pub mod LendingLemmas
pub mod LinkLemmas
pub mod StoreLemmas
