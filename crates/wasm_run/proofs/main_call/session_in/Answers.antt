use Rattle.std.proofs.Common.{◌≡◌, ℕ, List, [], Some, ap, map, sym, string_bytes, ◌∙◌}
use Rattle.script_commands.specs.Scripts.{spelling}
use Rattle.script_generated.specs.Scripts.{generated}
use Rattle.script_generated.specs.Words.{origin_of}
use Rattle.script_generated.specs.declared.words.Origin.TheVariants.{Input, Generated}
use Rattle.wasm_run.specs.Sessions.{RunOf, task_of_spelling}
use Rattle.wasm_run.proofs.SourceLemmas.{generated_task, nothing_taken, read_task, says_of, took_input, took_nothing}
use Rattle.wasm_run.proofs.main_call.session_in.Goals as goal

pub returns-in-Some-Generated-clause-says : goal.returns-in-Some-Generated-clause-says
returns-in-Some-Generated-clause-says g c =
    let words : List (List ℕ) = map string_bytes c.args.words.now in
    let n = c.in-Some-Generated.n in
    let from : origin_of words ≡ Some (Generated n) =
    sym c.origin_of.ensures.value ∙ c.in-Some-Generated.is ∙ ap Some c.in-Some-Generated.field-0-is in (
      [],
      nothing_taken _,
      says_of _ _ _ _ _ _ words [] c.run_generated.result (RunOf (Generated n) (generated n)) (took_nothing words n from)
          (generated_task words [] n from) c.run_generated.ensures.ends,
    )

pub returns-in-Ok-clause-says : goal.returns-in-Ok-clause-says
returns-in-Ok-clause-says g c =
    let words : List (List ℕ) = map string_bytes c.args.words.now in
    let taken = c.in-Ok.ensures.taken in
    let from : origin_of words ≡ Some Input =
    sym c.origin_of.ensures.value ∙ c.in-Some-Input.is ∙ ap Some c.in-Some-Input.field-0-is in (
      taken.0,
      taken.2,
      says_of _ _ _ _ _ _ words taken.0 c.run_text.result (task_of_spelling (spelling c.in-Ok.text.items))
          (took_input words taken.0 from taken.1.1)
          (ap (λ (xs : List ℕ). task_of_spelling (spelling xs)) taken.1.0 ∙ read_task words taken.0 from taken.1.1)
          c.run_text.ensures.ends,
    )
