use Rattle.std.proofs.Common.{◌≡◌, length}
use Rattle.wasm_linker.specs.Calls.{after_calls}
use Rattle.wasm_linker.proofs.laws.law_linker_is_its_calls.Given as goal

-- what is left decides
abbrev pub invariant-calls : goal.invariant-calls
invariant-calls g l =
    after_calls l.store.machine l.rest l.linker ≡ after_calls l.store.machine l.calls l.fn.linker

abbrev pub decreases-calls : goal.decreases-calls
decreases-calls g l = length l.rest
