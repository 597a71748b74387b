pub mod Constants
pub mod Entries
pub mod FunctionTypes
pub mod Imports
pub mod Reading
pub mod Segments
pub mod Types
