pub mod Nodes
pub mod Reach
pub mod Roots
pub mod Outside
pub mod Inside
pub mod ReachLaws
