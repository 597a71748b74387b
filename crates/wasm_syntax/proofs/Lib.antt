pub mod Examples
mod ModuleExamples
mod OperatorExamples
pub mod OperatorWidths
pub mod RuleExamples
pub mod Samples
pub mod ValidityLemmas
pub mod Stacks
pub mod FirstBrokenLemmas
