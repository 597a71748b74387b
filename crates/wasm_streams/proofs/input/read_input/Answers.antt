use Rattle.std.proofs.Common.{ℕ, arith}
use Rattle.std.proofs.lemmas.List.{length-take}
use Rattle.wasm_streams.proofs.Joins.{read_over, read_past}
use Rattle.wasm_streams.proofs.input.read_input.Goals as goal

pub returns-then-count-rest-clause-taken : goal.returns-then-count-rest-clause-taken
returns-then-count-rest-clause-taken g c =
    let e = c.in-Ok-read.ensures in
    read_past _ _ _ _ _ _ c.read.new.buffer c.loop-count.invariant.taken c.in-Ok-read.ensures.taken (omega (arith, length-take {A = ℕ})) (omega (arith, length-take {A = ℕ}))

pub returns-then-is_err-clause-taken : goal.returns-then-is_err-clause-taken
returns-then-is_err-clause-taken g c =
    let e = c.in-Ok-read.ensures in
    read_over _ _ _ _ _ _ c.read.new.buffer c.loop-count.invariant.taken c.in-Ok-read.ensures.taken (omega (arith, length-take {A = ℕ}))
