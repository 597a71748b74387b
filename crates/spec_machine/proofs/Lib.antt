pub mod Samples
mod Examples
