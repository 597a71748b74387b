pub mod Shown
pub mod Members
pub mod Mixed
pub mod Laws
pub mod RunLaws
pub mod Kept
pub mod Sight
pub mod SightFronts
