pub mod Modules
pub mod Sections
