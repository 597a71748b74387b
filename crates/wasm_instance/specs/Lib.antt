pub mod Asking
pub mod Exports
pub mod Imports
pub mod Instances
pub mod Left
pub mod Making
