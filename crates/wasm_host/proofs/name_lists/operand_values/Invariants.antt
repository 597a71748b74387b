use Rattle.std.proofs.Common.{◌≡◌, ◌++◌, drop}
use Rattle.std.specs.Prelude.{option_map}
use Rattle.spec_machine.specs.Names as names
use Rattle.wasm_host.specs.Scopes.{scope_of}
use Rattle.wasm_host.proofs.name_lists.operand_values.Given as goal

abbrev pub invariant-loop-arg : goal.invariant-loop-arg
invariant-loop-arg l =
    names.operand_values (scope_of l.scope) l.args ≡ option_map (λ rest. l.found.items ++ rest) (names.operand_values (scope_of l.scope) (drop l.arg-index l.args))
