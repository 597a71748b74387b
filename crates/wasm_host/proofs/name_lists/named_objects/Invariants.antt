use Rattle.std.proofs.Common.{◌≡◌, ◌++◌, drop}
use Rattle.std.specs.Prelude.{option_map}
use Rattle.spec_machine.specs.Names as names
use Rattle.wasm_host.specs.Scopes.{scope_of}
use Rattle.wasm_host.proofs.name_lists.named_objects.Given as goal

abbrev pub invariant-loop-name : goal.invariant-loop-name
invariant-loop-name l =
    names.named_objects (scope_of l.scope) l.stored ≡ option_map (λ rest. l.found.items ++ rest) (names.named_objects (scope_of l.scope) (drop l.name-index l.stored))
