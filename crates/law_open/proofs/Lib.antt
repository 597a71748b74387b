pub mod PartLemmas
pub mod PauseLemmas
pub mod ComingLemmas
pub mod StepLemmas
pub mod OperationLemmas
mod OpenExamples
