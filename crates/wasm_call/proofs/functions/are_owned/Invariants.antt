use Rattle.std.proofs.Common.{◌≡◌, drop}
use Rattle.std.specs.List.{list_all}
use Rattle.spec_machine.specs.Names.{named_object}
use Rattle.spec_machine.specs.declared.name.Name.{Name}
use Rattle.wasm_host.specs.Scopes.{scope_of}
use Rattle.wasm_call.specs.Functions.{owns_object}
use Rattle.wasm_call.proofs.functions.are_owned.Given as goal

-- what is left decides
abbrev pub invariant-loop-name : goal.invariant-loop-name
invariant-loop-name g l =
    list_all (λ (name : Name). owns_object l.store.machine (named_object (scope_of l.scope) name))
    (drop l.name-index l.given)
    ≡ list_all (λ (name : Name). owns_object l.store.machine (named_object (scope_of l.scope) name)) l.given
