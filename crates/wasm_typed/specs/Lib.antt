pub mod TypedFunctions
pub mod TypedExports
pub mod Wraps
pub mod WrapLaws
