use Rattle.std.proofs.Common.{◌≡◌, [], drop}
use Rattle.serde_json.specs.View.{items_view}
use Rattle.script_modules.specs.Modules.{modules_after}
use Rattle.script_modules.proofs.modules.read_modules.Given as goal

abbrev pub invariant-loop-item : goal.invariant-loop-item
invariant-loop-item l =
    modules_after l.types l.engine [] (items_view l.item-items) ≡ modules_after l.types l.engine l.modules.items (items_view (drop l.item-index l.item-items))
