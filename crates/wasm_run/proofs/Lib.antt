pub mod BufferLemmas
pub mod CountLemmas
mod Examples
pub mod SessionLemmas
pub mod ShownBodies
pub mod SourceLemmas
pub mod StartLemmas
pub mod TaskLemmas
