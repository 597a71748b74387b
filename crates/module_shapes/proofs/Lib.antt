pub mod CountLemmas
pub mod HeightLemmas
pub mod Parts
