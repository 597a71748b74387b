use Rattle.std.proofs.Common.{◌≡◌, ◌++◌, length}
use Rattle.std.specs.Vec.Iter.{into_iter_items}
use Rattle.wasm_run.specs.ModuleFaults.{first_invalid}
use Rattle.wasm_run.proofs.modules.validate_all.Given as goal

abbrev pub invariant-loop-decl : goal.invariant-loop-decl
invariant-loop-decl l =
    (goal.iterator-loop-decl).can_next l.decl-iterator
    × (goal.iterator-loop-decl).is_finite l.decl-iterator
    × (l.modules.items ++ into_iter_items l.decl-iterator ≡ l.fn.decls)
    × (first_invalid 0 l.fn.decls ≡ first_invalid (length l.modules.items) (into_iter_items l.decl-iterator))
