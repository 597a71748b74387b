pub mod Bounds
pub mod Values
pub mod Codes
pub mod Calls
