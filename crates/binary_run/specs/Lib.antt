pub mod Numbers
pub mod Words
pub mod Exports
pub mod Bytes
pub mod Calls
pub mod Starts
pub mod Statuses
pub mod StatusNames
