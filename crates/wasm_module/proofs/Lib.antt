pub mod ExportNames
pub mod FaultLemmas
pub mod FrontLemmas
pub mod LeadLemmas
pub mod KeptLemmas
