mod CauseExamples
pub mod OwnRefusals
pub mod CausesHeard
pub mod Worlds
pub mod Outcomes
pub mod Checks
pub mod Functions
pub mod Instantiation
pub mod Operations
pub mod Hosts
pub mod Instructions
pub mod CodeLemmas
pub mod LawLemmas
pub mod Counts
