pub mod StepLemmas
pub mod WrappedTypes
pub mod CallLemmas
pub mod ConfinedLemmas
