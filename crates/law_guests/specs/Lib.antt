pub mod Enclosed
pub mod Deeds
pub mod Visits
pub mod Depths
pub mod Segments
