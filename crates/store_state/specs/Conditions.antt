-- What is asked before a call of a function, apart from the call: this project's own.
use Rattle.std.specs.Prelude.{⊤, Result, Ok}
use Rattle.wasm_values.specs.declared.refusals.Refusal.{Refusal}
use Rattle.spec_machine.specs.FunctionCalls.{Called}
use Rattle.spec_machine.specs.Steps.{◌>>=◌}

-- the conditions of a call hold, or this is the first that does not
abbrev pub conditions : Result Called Refusal → Result ⊤ Refusal
conditions due = due >>= (λ c. Ok tt)
