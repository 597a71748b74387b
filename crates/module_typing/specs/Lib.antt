pub mod Answers
pub mod Code
pub mod Imported
pub mod Operands
