pub mod EnclosedLemmas
pub mod DeedLemmas
pub mod VisitLemmas
pub mod DepthLemmas
pub mod SegmentLemmas
