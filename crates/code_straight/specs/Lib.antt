pub mod Acting
pub mod Finding
pub mod Frames
pub mod Growing
pub mod Numbers
pub mod Reading
pub mod Taking
