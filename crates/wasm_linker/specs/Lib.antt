pub mod Calls
pub mod Defining
pub mod Exporting
pub mod InPlace
pub mod Linking
