pub mod CallLaws
pub mod Growths
pub mod LentLemmas
pub mod LinkLaws
