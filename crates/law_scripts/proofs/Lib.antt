pub mod ReadOperands
pub mod ReadOperations
pub mod SpelledBodies
pub mod ScriptedHosts
