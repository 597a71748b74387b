-- What a status says of the bytes that were taken, it says of the input.
use Rattle.std.proofs.Common.{inl, inr, ◌≡◌, ◌≢◌, true, false, lit≤, ℕ, ◌+◌, ◌<◌, ◌≤◌, List, [], ◌++◌, length, length-append, Option, Some, None, refl, ap, sym, ◌∙◌, subst, arith}
use Rattle.std.proofs.lemmas.Bool.{le-leb}
use Rattle.std.proofs.lemmas.Bool.Decides.{leb_tells}
use Rattle.std.proofs.lemmas.List.{append-nil}
use Rattle.std.specs.Prelude.{◌⊎◌, Bool, nat_le, if◌then◌else◌}
use Rattle.wasm_call.specs.Outside.{Readings}
use Rattle.wasm_store.specs.Stores.{StoreParts, store_parts}
use Rattle.wasm_streams.specs.Streams.{before, HasNothing}
use Rattle.script_commands.specs.Scripts.{spelling}
use Rattle.script_commands.specs.declared.script.Script.{Script}
use Rattle.script_data.specs.declared.script_data.ScriptData.{ScriptData}
use Rattle.script_generated.specs.Scripts.{generated}
use Rattle.script_generated.specs.Words.{origin_of}
use Rattle.script_generated.specs.declared.words.Origin.{Origin}
use Rattle.script_generated.specs.declared.words.Origin.TheVariants.{Input, Generated}
use Rattle.wasm_run.specs.Sessions.{SessionParts, Task, NoRun, RunOf, HasInput, due, limit, status_of, task_from, task_of, task_of_input, task_of_spelling}
use Rattle.wasm_run.specs.Statuses.{Says, Ends, Took, Quiet, Finished, RunShort, PartlyWritten, ShortOfMemory, BrokenShort, IsDecided, IsOfWhole}
use Rattle.wasm_run.specs.declared.status.Status.{Status}
use Rattle.wasm_run.specs.declared.status.Status.TheVariants.{Done, BadWords, ReadFault, TooLong, BadJson, BadScript, InvalidModule, OutOfMemory, WriteFault}

-- ---- what is asked for

-- what was taken of a source that gave its end is all that it had
whole : (taken input : List ℕ) (left : Option (List ℕ)) → Some input ≡ before taken left → HasNothing left →
    taken ≡ input
whole taken input None e n = cc
whole taken input (Some rest) e n =
    let same : input ≡ taken ++ rest = cc in
    sym (append-nil taken) ∙ ap (λ r. taken ++ r) (sym n) ∙ sym same

same_from : (origin : Option Origin) (taken input : List ℕ) → (origin ≡ Some Input → taken ≡ input) →
    task_from origin taken ≡ task_from origin input
same_from None taken input e = refl
same_from (Some Input) taken input e = ap task_of_input (e refl)
same_from (Some (Generated n)) taken input e = refl

-- where the source gave its end, the bytes that were taken ask for what the input asks for
same_task : (words : List (List ℕ)) (taken input : List ℕ) (old new : Option (List ℕ)) → HasInput words old input →
    old ≡ before taken new → (origin_of words ≡ Some Input → HasNothing new) → task_of words taken ≡ task_of words input
same_task words taken input old new has told ended =
    same_from (origin_of words) taken input (λ o. whole taken input new (sym (has o) ∙ told) (ended o))

from_input : (words : List (List ℕ)) (taken : List ℕ) → origin_of words ≡ Some Input →
    task_of words taken ≡ task_of_input taken
from_input words taken o = ap (λ (x : Option Origin). task_from x taken) o

-- what was read within the limit is a whole text
pub read_task : (words : List (List ℕ)) (taken : List ℕ) → origin_of words ≡ Some Input → length taken ≤ limit →
    task_of_spelling (spelling taken) ≡ task_of words taken
read_task words taken o w =
    sym (from_input words taken o
    ∙ ap (λ (x : Bool). if x then task_of_spelling (spelling taken) else NoRun TooLong)
    (le-leb (length taken) limit w))

at_least : (taken input : List ℕ) (left : Option (List ℕ)) → Some input ≡ before taken left →
    length taken ≤ length input
at_least taken input None e = cc
at_least taken input (Some rest) e =
    let same : input ≡ taken ++ rest = cc in
    omega (arith, ap (λ (xs : List ℕ). length xs) same, length-append taken rest)

past : (a b : ℕ) → b < a → nat_le a b ≡ false
past a b h = by (leb_tells a b) where
  by : ((nat_le a b ≡ true) × (a ≤ b)) ⊎ ((nat_le a b ≡ false) × (b < a)) → nat_le a b ≡ false
  by (inl p) = absurd (omega (arith, h, p.1))
  by (inr p) = p.0

-- where more was taken the input is too long
too_long : (words : List (List ℕ)) (taken input : List ℕ) (old new : Option (List ℕ)) → HasInput words old input →
    old ≡ before taken new → origin_of words ≡ Some Input → length taken ≡ limit + 1 →
    task_of words input ≡ NoRun TooLong
too_long words taken input old new has told o more =
    from_input words input o
    ∙ ap (λ (x : Bool). if x then task_of_spelling (spelling input) else NoRun TooLong)
    (past (length input) limit (omega (arith, more, at_least taken input new (sym (has o) ∙ told))))

-- ---- what was taken

pub nothing_taken : (left : Option (List ℕ)) → left ≡ before [] left
nothing_taken None = refl
nothing_taken (Some rest) = refl

not_none : (o : Option Origin) (origin : Origin) → o ≡ Some origin → o ≢ None
not_none o origin some none = cc

pub took_input : (words : List (List ℕ)) (taken : List ℕ) → origin_of words ≡ Some Input → length taken ≤ limit →
    Took words taken
took_input words taken o w =
    record { asked = not_none (origin_of words) Input o; within = w; nothing = λ other. absurd (other o) }

pub took_nothing : (words : List (List ℕ)) (n : ℕ) → origin_of words ≡ Some (Generated n) → Took words []
took_nothing words n o = record {
  asked = not_none (origin_of words) (Generated n) o;
  within = lit≤ tt;
  nothing = λ other. refl;
}

pub generated_task : (words : List (List ℕ)) (taken : List ℕ) (n : ℕ) → origin_of words ≡ Some (Generated n) →
    RunOf (Generated n) (generated n) ≡ task_of words taken
generated_task words taken n o = sym (ap (λ (x : Option Origin). task_from x taken) o)

-- ---- what a status says

-- what holds of one run holds of the same run
at_run : (P : Origin → Script → Type 0) (a b : Origin) (s t : Script) → RunOf a s ≡ RunOf b t → P a s → P b t
at_run P a b s t e p =
    let o : a ≡ b = cc in
    let i : s ≡ t = cc in
    subst (λ (y : Script). P b y) i (subst (λ (x : Origin). P x s) o p)

module _ {E : Type 0} (readings : Readings E) (epochs epochs_after : E) (h : SessionParts) (held written : Option (List ℕ))
    (words : List (List ℕ)) (taken : List ℕ) where
  abbrev EndsHere : Task → Status → Type 0
  EndsHere task status = Ends readings epochs epochs_after h held written task status

  abbrev SaysHere : Status → Type 0
  SaysHere status = Says readings epochs epochs_after h held written words taken status

  pub says_of : (status : Status) (task : Task) → Took words taken → task ≡ task_of words taken →
      EndsHere task status → SaysHere status
  says_of Done task took e ends = (took, subst (λ (t : Task). EndsHere t Done) e ends)
  says_of BadWords task took e ends = absurd ends
  says_of ReadFault task took e ends = absurd ends
  says_of TooLong task took e ends = absurd ends
  says_of BadJson task took e ends = (took, subst (λ (t : Task). EndsHere t BadJson) e ends)
  says_of BadScript task took e ends = (took, subst (λ (t : Task). EndsHere t BadScript) e ends)
  says_of (InvalidModule n rule place) task took e ends =
      (took, subst (λ (t : Task). EndsHere t (InvalidModule n rule place)) e ends)
  says_of OutOfMemory task took e ends = (took, subst (λ (t : Task). EndsHere t OutOfMemory) e ends)
  says_of WriteFault task took e ends = (took, subst (λ (t : Task). EndsHere t WriteFault) e ends)

  -- words that ask for nothing end no run otherwise
  pub ends_well : (status : Status) (task : Task) → EndsHere task status → status ≢ BadWords
  ends_well BadWords task ends e = ends
  ends_well Done task ends e = cc
  ends_well ReadFault task ends e = cc
  ends_well TooLong task ends e = cc
  ends_well BadJson task ends e = cc
  ends_well BadScript task ends e = cc
  ends_well (InvalidModule n rule place) task ends e = cc
  ends_well OutOfMemory task ends e = cc
  ends_well WriteFault task ends e = cc

  module _ (input : List ℕ) (old new : Option (List ℕ)) (has : HasInput words old input)
      (told : old ≡ before taken new) where
    abbrev Ended : Status → Type 0
    Ended status = origin_of words ≡ Some Input → IsOfWhole status → HasNothing new

    -- where a status says that the source gave its end, the task is that of the input
    asked : (status : Status) (task : Task) → IsOfWhole status → Ended status → task_of words taken ≡ task →
        status_of task ≡ due words input
    asked status task w ended e =
        ap status_of (sym e ∙ same_task words taken input old new has told (λ o. ended o w))

    pub decided_of : (status : Status) → SaysHere status → Ended status → IsDecided status → status ≡ due words input
    decided_of Done says ended d = asked Done (RunOf says.1.origin says.1.script) tt ended says.1.asks
    decided_of BadWords says ended d = sym (ap (λ (x : Option Origin). status_of (task_from x input)) says.0)
    decided_of ReadFault says ended d = absurd d
    decided_of TooLong says ended d = sym (ap status_of (too_long words taken input old new has told says.0 says.1))
    decided_of BadJson says ended d = asked BadJson (NoRun BadJson) tt ended says.1.0
    decided_of BadScript says ended d = asked BadScript (NoRun BadScript) tt ended says.1.0
    decided_of (InvalidModule n rule place) says ended d =
        asked (InvalidModule n rule place) (NoRun (InvalidModule n rule place)) tt ended says.1.0
    decided_of OutOfMemory says ended d = absurd d
    decided_of WriteFault says ended d = absurd d

    pub complete_of : (status : Status) → SaysHere status → Ended status → status ≢ ReadFault → status ≢ WriteFault →
        (status ≡ due words input) ⊎ (status ≡ OutOfMemory)
    complete_of Done says ended r w = inl (decided_of Done says ended tt)
    complete_of BadWords says ended r w = inl (decided_of BadWords says ended tt)
    complete_of ReadFault says ended r w = absurd (r refl)
    complete_of TooLong says ended r w = inl (decided_of TooLong says ended tt)
    complete_of BadJson says ended r w = inl (decided_of BadJson says ended tt)
    complete_of BadScript says ended r w = inl (decided_of BadScript says ended tt)
    complete_of (InvalidModule n rule place) says ended r w =
        inl (decided_of (InvalidModule n rule place) says ended tt)
    complete_of OutOfMemory says ended r w = inr refl
    complete_of WriteFault says ended r w = absurd (w refl)

    module _ (origin : Origin) (script : Script) (asks : task_of words input ≡ RunOf origin script) where
      -- the run that a status speaks of is the one that the input asks for
      one_run : (a : Origin) (s : Script) → (origin_of words ≡ Some Input → HasNothing new) →
          task_of words taken ≡ RunOf a s → RunOf a s ≡ RunOf origin script
      one_run a s ended e = sym e ∙ same_task words taken input old new has told ended ∙ asks

      pub done_of : SaysHere Done → Ended Done → Finished readings epochs epochs_after h held written origin script
      done_of says ended =
          let a = says.1 in
          at_run (λ o s. Finished readings epochs epochs_after h held written o s) a.origin origin a.script script
          (one_run a.origin a.script (λ o. ended o tt) a.asks) a.finished

      pub failed_of : SaysHere WriteFault → Ended WriteFault →
          PartlyWritten readings epochs epochs_after h held written origin script
      failed_of says ended =
          let b = says.1 in
          at_run (λ o s. PartlyWritten readings epochs epochs_after h held written o s) b.origin origin b.script script
          (one_run b.origin b.script (λ o. ended o tt) b.asks) b.stopped

      -- a script that was run, for whose run or text the memory did not suffice, left a store
      store_of : (o : Origin) (s : Script) → RunShort readings epochs epochs_after h held written o s →
          (kept : StoreParts ScriptData) × (h.store ≡ Some kept)
      store_of o s (inl p) = (
        store_parts p.0.ran.machine p.0.ran.last p.0.ran.host_data,
        ap (λ (x : SessionParts). x.store) p.0.ran.state_is,
      )
      store_of o s (inr p) = (
        store_parts p.0.stopped.machine h.turns p.0.stopped.host_data,
        ap (λ (x : SessionParts). x.store) p.0.stopped.state_is,
      )

      abbrev EndedWhereKept : Type 0
      EndedWhereKept =
          (kept : StoreParts ScriptData) → h.store ≡ Some kept → origin_of words ≡ Some Input → HasNothing new

      memory_by : EndedWhereKept →
          Quiet epochs epochs_after h held written ⊎ BrokenShort readings epochs epochs_after h held written (task_of words taken) →
          Quiet epochs epochs_after h held written ⊎ ShortOfMemory readings epochs epochs_after h held written origin script
      memory_by ended (inl quiet) = inl quiet
      memory_by ended (inr b) =
          let s = store_of b.origin b.script b.stopped.ran in
          inr (at_run (λ o t. ShortOfMemory readings epochs epochs_after h held written o t) b.origin origin b.script
          script (one_run b.origin b.script (ended s.0 s.1) b.asks) b.stopped)

      pub memory_of : SaysHere OutOfMemory → EndedWhereKept →
          Quiet epochs epochs_after h held written ⊎ ShortOfMemory readings epochs epochs_after h held written origin script
      memory_of says ended = memory_by ended says.1
