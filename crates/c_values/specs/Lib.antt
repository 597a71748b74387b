pub mod Kinds
pub mod Values
