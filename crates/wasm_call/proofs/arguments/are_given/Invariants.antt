use Rattle.std.proofs.Common.{◌≡◌, drop}
use Rattle.std.specs.List.{list_all}
use Rattle.std.specs.Prelude.{is_some}
use Rattle.spec_machine.specs.Names.{operand_value}
use Rattle.spec_machine.specs.declared.name.Operand.{Operand}
use Rattle.wasm_host.specs.Scopes.{scope_of}
use Rattle.wasm_call.proofs.arguments.are_given.Given as goal

-- what is left decides
abbrev pub invariant-loop-arg : goal.invariant-loop-arg
invariant-loop-arg l =
    list_all (λ (arg : Operand). is_some (operand_value (scope_of l.scope) arg)) (drop l.arg-index l.args)
    ≡ list_all (λ (arg : Operand). is_some (operand_value (scope_of l.scope) arg)) l.args
