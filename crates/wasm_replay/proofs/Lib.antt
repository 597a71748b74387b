pub mod RecordLemmas
pub mod RecordChains
pub mod ProgressLemmas
pub mod ReplayChains
pub mod ReplayEnds
pub mod CallLemmas
pub mod ReplayLemmas
