pub mod CodeGrowths
pub mod CodeRuns
pub mod ExportLaws
