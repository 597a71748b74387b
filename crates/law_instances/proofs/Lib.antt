pub mod ExportLemmas
pub mod GrowthLemmas
pub mod KeptLemmas
