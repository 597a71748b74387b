mod CodeExamples
pub mod CodeDepthLemmas
pub mod Depth
mod ModuleExamples
