pub mod Dialogues
pub mod CodeDialogues
pub mod DialoguesOfChecks
pub mod DialoguesOfCalls
pub mod DialoguesOfInstantiation
pub mod DialoguesOfCommands
pub mod DialoguesOfHosts
pub mod DialoguesOfCode
pub mod FrontLemmas
mod FrontExamples
