pub mod ChangeLemmas
pub mod FindingLemmas
pub mod FrameLemmas
pub mod Growths
pub mod InstanceLemmas
pub mod OperatorLemmas
pub mod OperandLemmas
