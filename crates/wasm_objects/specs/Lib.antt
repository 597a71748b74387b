pub mod Tables
pub mod Globals
pub mod Growth
pub mod Objects
pub mod Lending
pub mod Lazy
pub mod Slots
