use Rattle.std.proofs.Common.{arith, ℕ, ◌+◌, ◌∙◌}
use Rattle.wasm_streams.proofs.Joins.{write_more, fronts_done, not_flushed}
use Rattle.std.proofs.lemmas.List.{take_rest, length-take, length-drop}
use Rattle.wasm_streams.proofs.sink.write_all.Goals as goal

pub loop-done-preserved : goal.loop-done-preserved
loop-done-preserved g c =
    let e = c.in_ok-done.ensures in record {
      within = omega (arith, length-take {A = ℕ}, length-drop {A = ℕ});
      wrote = write_more _ _ _ _ _ _ c.loop-done.invariant.wrote (rw take_rest at c.in_ok-done.ensures.wrote);
      flushed = not_flushed _ _ (c.loop-done.done + c.in_ok-done.field-0) e.tells (omega (arith, length-drop {A = ℕ}));
      uncounted = e.uncounted ∙ c.loop-done.invariant.uncounted;
    }

pub returns-in_err-done-clause-front : goal.returns-in_err-done-clause-front
returns-in_err-done-clause-front g c = fronts_done _ _ _ _ (c.in_err-done.ensures.untouched ∙ c.loop-done.invariant.wrote)
