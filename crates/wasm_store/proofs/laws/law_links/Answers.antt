use Rattle.wasm_store.proofs.LinkLaws.{links_lead_on}
use Rattle.wasm_store.proofs.laws.law_links.Goals as goal

pub returns : goal.returns
returns c = record { lead_on = links_lead_on }
