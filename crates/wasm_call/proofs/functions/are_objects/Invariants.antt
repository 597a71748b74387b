use Rattle.std.proofs.Common.{◌≡◌, drop}
use Rattle.std.specs.Prelude.{is_some}
use Rattle.spec_machine.specs.Names.{named_objects}
use Rattle.wasm_host.specs.Scopes.{scope_of}
use Rattle.wasm_call.proofs.functions.are_objects.Given as goal

-- what is left decides
abbrev pub invariant-loop-name : goal.invariant-loop-name
invariant-loop-name l =
    is_some (named_objects (scope_of l.scope) (drop l.name-index l.given))
    ≡ is_some (named_objects (scope_of l.scope) l.given)
