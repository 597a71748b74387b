pub mod RunFronts
pub mod RunAskings
pub mod Replays
pub mod UnusedAnswers
pub mod TapeLemmas
