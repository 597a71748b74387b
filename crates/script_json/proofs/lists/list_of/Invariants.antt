use Rattle.std.proofs.Common.{◌≡◌, drop, ◌++◌, Some}
use Rattle.serde_json.specs.View.{items_view}
use Rattle.script_json.specs.Fields.{◌>>=◌, all_of}
use Rattle.script_json.proofs.lists.list_of.Given as goal

abbrev pub invariant-loop-value : goal.invariant-loop-value
invariant-loop-value g l = all_of (g.R.JsonReader.meaning l.reader) (items_view l.value-items) ≡ (all_of (g.R.JsonReader.meaning l.reader) (items_view (drop l.value-index l.value-items)) >>= (λ rest. Some (l.items.items ++ rest)))
