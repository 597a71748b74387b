pub mod InMemory
pub mod Standard
pub mod Streams
