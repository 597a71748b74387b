pub mod Objects
pub mod Preparing
pub mod Spaces
pub mod Taking
