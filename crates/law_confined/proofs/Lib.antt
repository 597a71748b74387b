pub mod AllMembers
pub mod MemberChanges
pub mod NewMembers
pub mod OtherStores
pub mod HeldOperands
pub mod StraightMembers
pub mod HeldValues
pub mod NameLemmas
pub mod CountMembers
pub mod AllocationMembers
pub mod SegmentMembers
pub mod ShownLemmas
pub mod MemberBounds
pub mod CodeTurns
pub mod MakingTurns
pub mod StepMembers
pub mod RowMembers
pub mod ContentMembers
pub mod CallMembers
pub mod OperationMembers
pub mod HostMembers
pub mod SaidMembers
pub mod ClosedSets
pub mod MixLemmas
pub mod Confinement
pub mod RunConfinement
pub mod NamedConfinement
pub mod KeptLemmas
pub mod SightReach
pub mod SightStores
pub mod Sight
pub mod SightFronts
mod ConfinementSamples
mod ConfinementExamples
mod SightExamples
