pub mod CutLemmas
pub mod MoveLemmas
pub mod TopmostLemmas
pub mod LayerLemmas
pub mod DropLemmas
