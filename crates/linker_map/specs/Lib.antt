pub mod Faults
pub mod Imports
pub mod Laws
pub mod Linkers
