mod Samples
mod RunSamples
mod CommandExamples
mod SessionExamples
mod RowExamples
mod Examples
mod CostExamples
mod HostExamples
mod InstantiationExamples
pub mod Ways
pub mod WaysOfChecks
pub mod WaysOfCalls
pub mod WaysOfInstantiation
pub mod WaysOfCommands
pub mod WaysOfHosts
pub mod WaysOfCode
pub mod CostLemmas
pub mod EquationLemmas
pub mod LaterWorldLemmas
pub mod MoreTurnLemmas
pub mod NoTurnLemmas
