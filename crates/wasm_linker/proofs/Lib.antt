mod CallLemmas
mod ExportLemmas
mod FitLemmas
mod LinkLemmas
mod UnlistedLemmas
mod ConfinedLemmas
