pub mod Exports
pub mod Faults
pub mod Images
pub mod Kept
pub mod Fitting
