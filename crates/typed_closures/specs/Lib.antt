pub mod ClosureTypes
pub mod Given
pub mod PlainLists
