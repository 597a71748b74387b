pub mod HostCodes
pub mod Notes
pub mod ScriptSteps
pub mod StepLaws
