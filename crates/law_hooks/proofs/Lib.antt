mod BracketExamples
mod RunExamples
pub mod BorderLemmas
pub mod Worlds
pub mod Outcomes
pub mod Borders
pub mod Checks
pub mod Functions
pub mod StraightLemmas
pub mod SegmentLemmas
pub mod Instantiation
pub mod Operations
pub mod Hosts
pub mod Instructions
pub mod CodeLemmas
pub mod LawLemmas
