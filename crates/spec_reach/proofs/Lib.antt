pub mod FilterLemmas
pub mod ReachLemmas
mod ReachExamples
