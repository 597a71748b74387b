pub mod Opens
pub mod Steps
pub mod Comings
pub mod OpenLaws
