pub mod Cuts
pub mod Lending
pub mod Reading
pub mod Values
pub mod Layers
pub mod Steps
