pub mod Sessions
pub mod Short
pub mod Confined
pub mod Causes
