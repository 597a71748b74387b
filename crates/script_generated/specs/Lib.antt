pub mod Commands
pub mod Modules
pub mod Scripts
pub mod Summaries
pub mod Words
