use Rattle.std.proofs.Common.{◌≡◌, [], drop}
use Rattle.serde_json.specs.View.{items_view}
use Rattle.script_types.specs.Types.{types_after}
use Rattle.script_types.proofs.types.type_list.Given as goal

abbrev pub invariant-loop-item : goal.invariant-loop-item
invariant-loop-item l =
    types_after [] (items_view l.item-items) ≡ types_after l.types.items (items_view (drop l.item-index l.item-items))
