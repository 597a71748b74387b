pub mod BitwiseLemmas
pub mod RotationLemmas
