-- A step of a script's host, put together from its notes and what it says.
use Rattle.std.proofs.Common.{◌≡◌, ℕ, ◌+◌, ◌-◌, ◌≤◌, List, ◌++◌, length, map, take, String, string_bytes, ℤ, ap, sym, ◌∙◌, arith}
use Rattle.std.specs.Prelude.{Result, Ok, Err, IfOk, OnErr}
use Rattle.std.proofs.lemmas.List.{length-append, take-map}
use Rattle.std.specs.declared.alloc.Global.{Global}
use Rattle.wasm_values.specs.declared.externals.Extern.{Extern}
use Rattle.wasm_values.specs.declared.values.Val.{Val}
use Rattle.spec_machine.specs.declared.reply.Reply.{Reply}
use Rattle.spec_execution.specs.Askings.{View}
use Rattle.spec_execution.specs.declared.answer.Answer.{Answer}
use Rattle.wasm_types.specs.declared.faults.OutOfMemory.{OutOfMemory}
use Rattle.script_commands.specs.declared.host_bodies.Action.{Action}
use Rattle.script_data.specs.declared.script_data.ScriptData.{ScriptData}
use Rattle.script_host.specs.Notes.{note_text, notes_before, behind_notes}
use Rattle.script_host.specs.ScriptSteps.{HostParts, host_parts, says, scope_in, faults_after, place_behind, actions_from, step_by, step_on, Goes, Steps}

-- so many notes were taken
pub taken_count : (all old taken : List (List ℕ)) → all ≡ old ++ taken → length all - length old ≡ length taken
taken_count all old taken e =
    let n : length all ≡ length old + length taken = ap length e ∙ length-append old taken in omega (arith, n)

-- what follows from the parts of a step
module _ (h : HostParts) (number : ℤ) (arguments : List Val) (replies : List Reply) (stored : List Extern) (body place : ℕ) where
  abbrev actions : List Action
  actions = actions_from h body place

  abbrev taken : List (List ℕ)
  taken = notes_before (note_text number arguments replies) actions

  abbrev rest : List Action
  rest = behind_notes actions

  pub goes : (k : HostParts) (answer : Answer) (after : ℕ) → k.bodies ≡ h.bodies → k.notes ≡ h.notes ++ taken → k.faults ≡ faults_after answer h.faults → answer ≡ says (scope_in arguments replies stored) rest → after ≡ place_behind place (length taken) rest → Goes h number arguments replies stored body place answer after k
  goes k answer after bodies notes faults said left =
      ap (λ (b : List (List Action)). record { host = host_parts b k.faults k.notes; state = after; answer = answer }) bodies
      ∙ ap (λ (n : List (List ℕ)). record { host = host_parts h.bodies k.faults n; state = after; answer = answer }) notes
      ∙ ap (λ (n : ℕ). record { host = host_parts h.bodies n (h.notes ++ taken); state = after; answer = answer }) faults
      ∙ ap (λ (n : ℕ). record { host = host_parts h.bodies (faults_after answer h.faults) (h.notes ++ taken); state = n; answer = answer }) left
      ∙ ap (λ (a : Answer). step_by h place taken rest a) said

-- a step, by what is known of it
pub steps_of : (h k : HostParts) (s t : ScriptData) (body place after : ℕ) (view : View) (number : ℤ) (arguments : List Val) (replies : List Reply) (stored : List Extern) (result : Result Answer OutOfMemory) → number ≡ s.number → arguments ≡ view.arguments → replies ≡ view.replies → stored ≡ view.stored → t ≡ s → h.faults ≤ k.faults → IfOk result (λ answer. Goes h number arguments replies stored body place answer after k) → OnErr result ((k ≡ h) × (after ≡ place)) → Steps h s body place view after result k t
steps_of h k s t body place after view number arguments replies stored (Ok answer) n a r o same count goes short = record {
  goes =
      goes
      ∙ ap (λ (x : ℤ). step_on h x arguments replies stored place (actions_from h body place)) n
      ∙ ap (λ (x : List Val). step_on h s.number x replies stored place (actions_from h body place)) a
      ∙ ap (λ (x : List Reply). step_on h s.number view.arguments x stored place (actions_from h body place)) r
      ∙ ap (λ (x : List Extern). step_on h s.number view.arguments view.replies x place (actions_from h body place)) o;
  data_is = same;
  never_falls = count;
}
steps_of h k s t body place after view number arguments replies stored (Err none) n a r o same count goes short = record {
  goes = short;
  data_is = same;
  never_falls = count;
}

-- a host whose newer notes were taken off again is the one before
pub cut_back : (h k : HostParts) (bodies : List (List Action)) (faults : ℕ) (notes cut : List (String Global)) (before : ℕ) → host_parts bodies faults (map string_bytes notes) ≡ k → k.bodies ≡ h.bodies → k.faults ≡ h.faults → take (length h.notes) k.notes ≡ h.notes → cut ≡ take before notes → before ≡ length h.notes → host_parts bodies faults (map string_bytes cut) ≡ h
cut_back h k bodies faults notes cut before view b f kept taken n =
    let same : map string_bytes cut ≡ h.notes = ap (map string_bytes) taken ∙ sym (take-map string_bytes before notes) ∙ ap (λ (i : ℕ). take i (map string_bytes notes)) n ∙ ap (λ (x : HostParts). take (length h.notes) x.notes) view ∙ kept in
    ap (λ (x : List (List Action)). host_parts x faults (map string_bytes cut)) (ap (λ (x : HostParts). x.bodies) view ∙ b)
    ∙ ap (λ (x : ℕ). host_parts h.bodies x (map string_bytes cut)) (ap (λ (x : HostParts). x.faults) view ∙ f)
    ∙ ap (host_parts h.bodies h.faults) same
