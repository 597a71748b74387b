pub mod LentData
pub mod Links
pub mod Machines
pub mod Sharing
