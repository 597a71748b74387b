pub mod Brackets
pub mod HookLaws
pub mod Askers
