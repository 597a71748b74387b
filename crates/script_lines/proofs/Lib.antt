pub mod Beginnings
mod Examples
