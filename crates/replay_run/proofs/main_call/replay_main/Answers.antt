use Rattle.std.proofs.Common.{List, ℕ, map, sym, ◌∙◌, arith}
use Rattle.std.specs.Prelude.{string_bytes}
use Rattle.replay_run.proofs.StatusLemmas.{says_whole, says_within}
use Rattle.replay_run.proofs.main_call.replay_main.Goals as goal

pub returns-in-Ok-clause-says : goal.returns-in-Ok-clause-says
returns-in-Ok-clause-says g c = λ input told.
    let t = c.in-Ok.ensures.taken in
    let words : List (List ℕ) = map string_bytes c.args.words.now in
    says_whole g.E.EpochSource.readings c.args.epochs.now c.run_input.new.epochs _ _ words c.in-Some.way input t.0 _ _
    c.run_input.result (sym c.in-Some.ensures) (sym told ∙ t.2) c.in-Ok.ensures.end.1
    (c.as_slice.ensures.value ∙ t.1.0) t.1.1 c.run_input.ensures.says

pub returns-in-Ok-clause-says_of_taken : goal.returns-in-Ok-clause-says_of_taken
returns-in-Ok-clause-says_of_taken g c =
    let t = c.in-Ok.ensures.taken in
    let words : List (List ℕ) = map string_bytes c.args.words.now in (
      t.0,
      t.2,
      omega (arith, t.1.1),
      says_within g.E.EpochSource.readings c.args.epochs.now c.run_input.new.epochs _ _ words c.in-Some.way _ t.0
          c.run_input.result (sym c.in-Some.ensures) (c.as_slice.ensures.value ∙ t.1.0) t.1.1
          c.run_input.ensures.says,
    )
