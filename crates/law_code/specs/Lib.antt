pub mod Answers
pub mod Effects
pub mod Good
pub mod Laws
pub mod RunLaws
pub mod Runs
pub mod Typed
