use Rattle.std.proofs.Common.{◌≤◌, length, map, sym, ◌∙◌, arith}
use Rattle.std.specs.Prelude.{string_bytes}
use Rattle.binary_run.proofs.SpelledLemmas.{says_of, says_of_taken_by, decided_of, complete_of}
use Rattle.binary_run.proofs.main_call.run_main.Goals as goal

pub returns-in-Ok-clause-decided : goal.returns-in-Ok-clause-decided
returns-in-Ok-clause-decided g c = λ input told decided.
    let t = c.in-Ok.ensures.taken in
    decided_of g.E.EpochSource.readings c.args.epochs.now c.run_input.new.epochs _ _
    (map string_bytes c.args.words.now) _ input t.0 _ _ c.run_input.result
    c.in-Some.ensures.asked (sym told ∙ t.2) c.in-Ok.ensures.end.1 t.1.0 t.1.1 c.run_input.ensures.says decided

pub returns-in-Ok-clause-complete : goal.returns-in-Ok-clause-complete
returns-in-Ok-clause-complete g c = λ input told read write.
    let t = c.in-Ok.ensures.taken in
    complete_of g.E.EpochSource.readings c.args.epochs.now c.run_input.new.epochs _ _
    (map string_bytes c.args.words.now) _ input t.0 _ _ c.run_input.result
    c.in-Some.ensures.asked (sym told ∙ t.2) c.in-Ok.ensures.end.1 t.1.0 t.1.1 c.run_input.ensures.says
    c.run_input.ensures.after_input (λ e. write (c.run_input.ensures.write_fault e))

pub returns-in-Ok-clause-says : goal.returns-in-Ok-clause-says
returns-in-Ok-clause-says g c = λ input told.
    let t = c.in-Ok.ensures.taken in
    says_of g.E.EpochSource.readings c.args.epochs.now c.run_input.new.epochs _ _
    (map string_bytes c.args.words.now) _ input t.0 _ _ c.run_input.result
    c.in-Some.ensures.asked (sym told ∙ t.2) c.in-Ok.ensures.end.1 t.1.0 t.1.1 c.run_input.ensures.says

pub returns-in-Ok-clause-says_of_taken : goal.returns-in-Ok-clause-says_of_taken
returns-in-Ok-clause-says_of_taken g c =
    let t = c.in-Ok.ensures.taken in
    let within : length t.0 ≤ 16777217 = omega (arith, t.1.1) in (
      t.0,
      t.2,
      within,
      says_of_taken_by g.E.EpochSource.readings c.args.epochs.now c.run_input.new.epochs _ _
          (map string_bytes c.args.words.now) _ t.0 _ c.run_input.result c.in-Some.ensures.asked t.1.0 t.1.1
          c.run_input.ensures.says,
    )
