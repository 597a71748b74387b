mod AnswerExamples
mod EngineExamples
mod Examples
mod HostExamples
mod ModuleExamples
pub mod References
