-- What a status says of a sink behind its room is what it says of what the sink holds; and a count that stayed did not rise.
use Rattle.std.proofs.Common.{◌≡◌, ◌⊎◌, inl, inr, ℕ, List, [], ◌∷◌, ◌++◌, Option, Some, None, false, refl, ap, subst, sym, ◌∙◌, arith}
use Rattle.wasm_call.specs.Outside.{Readings}
use Rattle.wasm_meter.specs.Epochs.{CountsReadings}
use Rattle.wasm_streams.specs.Streams.{Rose, before}
use Rattle.memory_streams.specs.InRoom.{RoomState, room_state}
use Rattle.memory_streams.proofs.RoomLemmas.{same_behind, after_behind, fronts_behind}
use Rattle.script_commands.specs.declared.script.Script.{Script}
use Rattle.script_generated.specs.Words.{origin_of}
use Rattle.script_generated.specs.declared.words.Origin.{Origin}
use Rattle.script_generated.specs.declared.words.Origin.TheVariants.{Input}
use Rattle.wasm_run.specs.Buffers.{IsCutShort}
use Rattle.wasm_run.specs.Sessions.{SessionParts, Task, RunOf, empty, task_of}
use Rattle.wasm_run.specs.Statuses.{Says, Quiet, Answered, Broken, Finished, RunInPart, RunShort, ShortOfMemory, Ends, IsOfWhole, text_of, finished_text}
use Rattle.wasm_run.specs.declared.status.Status.{Status}
use Rattle.wasm_run.specs.declared.status.Status.TheVariants.{Done, BadWords, ReadFault, TooLong, BadJson, BadScript, InvalidModule, OutOfMemory, WriteFault}
use Rattle.session_bytes.specs.Runs.{run_words, HasEnded, HasRun}

pub not_rose : (old new : ℕ) → old ≡ 0 → new ≡ old → Rose old new → ⊥
not_rose old new none same (inl more) = omega arith
not_rose old new none same (inr last) = omega arith

pub short_behind : (text : List ℕ) (room room_after : ℕ) (held held_after : List ℕ) → IsCutShort text (Some (room ∷ held)) (Some (room_after ∷ held_after)) → (room_after ≡ room) × IsCutShort text (Some held) (Some held_after)
short_behind text room room_after held held_after s =
    let e = after_behind s.front room room_after held held_after s.wrote in
    (e.0, record { front = s.front; rest = s.rest; whole = s.whole; missing = s.missing; wrote = e.1 })

module _ {E : Type 0} (readings : Readings E) (e0 e1 : E) (h : SessionParts) (room room_after : ℕ) (held : List ℕ) where
  abbrev old : Option (List ℕ)
  old = Some (room ∷ [])

  abbrev new : Option (List ℕ)
  new = Some (room_after ∷ held)

  abbrev With : Type 0 → Type 0
  With P = (room_after ≡ room) × P

  pub quiet_behind : Quiet e0 e1 h old new → With (Quiet e0 e1 h (Some []) (Some held))
  quiet_behind q =
      let e = same_behind room room_after [] held q.sink in
      (e.0, record { session = q.session; sink = e.1; unread = q.unread })

  finished_behind : (origin : Origin) (script : Script) → Finished readings e0 e1 h old new origin script →
      With (Finished readings e0 e1 h (Some []) (Some held) origin script)
  finished_behind origin script f =
      let e = after_behind (text_of origin script h) room room_after [] held f.wrote in
      (e.0, record { valid = f.valid; ran = f.ran; wrote = e.1 })

  in_part : (origin : Origin) (script : Script) → RunInPart readings e0 e1 h old new origin script →
      With (RunInPart readings e0 e1 h (Some []) (Some held) origin script)
  in_part origin script (inl r) =
      let e = fronts_behind (text_of origin script h) room room_after [] held r.1 in (e.0, inl (r.0, e.1))
  in_part origin script (inr r) =
      let e = fronts_behind (finished_text origin h) room room_after [] held r.1 in (e.0, inr (r.0, e.1))

  in_short : (origin : Origin) (script : Script) → RunShort readings e0 e1 h old new origin script →
      With (RunShort readings e0 e1 h (Some []) (Some held) origin script)
  in_short origin script (inl r) =
      let e = short_behind (text_of origin script h) room room_after [] held r.1 in (e.0, inl (r.0, e.1))
  in_short origin script (inr r) =
      let e = fronts_behind (finished_text origin h) room room_after [] held r.1 in (e.0, inr (r.0, e.1))

  memory_behind : (origin : Origin) (script : Script) → ShortOfMemory readings e0 e1 h old new origin script →
      With (ShortOfMemory readings e0 e1 h (Some []) (Some held) origin script)
  memory_behind origin script s =
      let e = in_short origin script s.ran in (e.0, record { valid = s.valid; ran = e.1 })

  pub out_of_memory_behind : (origin : Origin) (script : Script) →
      Quiet e0 e1 h old new ⊎ ShortOfMemory readings e0 e1 h old new origin script →
      Quiet e0 e1 h (Some []) (Some held) ⊎ ShortOfMemory readings e0 e1 h (Some []) (Some held) origin script
  out_of_memory_behind origin script (inl q) = inl (quiet_behind q).1
  out_of_memory_behind origin script (inr s) = inr (memory_behind origin script s).1

  answered_behind : (task : Task) → Answered readings e0 e1 h old new task →
      With (Answered readings e0 e1 h (Some []) (Some held) task)
  answered_behind task a =
      let e = finished_behind a.origin a.script a.finished in
      (e.0, record { origin = a.origin; script = a.script; asks = a.asks; finished = e.1 })

  broken_behind : (task : Task) → Broken readings e0 e1 h old new task →
      With (Broken readings e0 e1 h (Some []) (Some held) task)
  broken_behind task b =
      let e = in_part b.origin b.script b.stopped.ran in
      (e.0, record { origin = b.origin; script = b.script; asks = b.asks; stopped = record { valid = b.stopped.valid; ran = e.1 } })

  memory_ended : (task : Task) → Ends readings e0 e1 h old new task OutOfMemory →
      With (Ends readings e0 e1 h (Some []) (Some held) task OutOfMemory)
  memory_ended task (inl q) = let e = quiet_behind q in (e.0, inl e.1)
  memory_ended task (inr b) =
      let e = memory_behind b.origin b.script b.stopped in
      (e.0, inr (record { origin = b.origin; script = b.script; asks = b.asks; stopped = e.1 }))

  module _ (words : List (List ℕ)) (taken : List ℕ) where
    pub says_behind : (r : Status) → Says readings e0 e1 h old new words taken r →
        With (Says readings e0 e1 h (Some []) (Some held) words taken r)
    says_behind Done s = let e = answered_behind _ s.1 in (e.0, (s.0, e.1))
    says_behind BadWords s = let e = quiet_behind s.2 in (e.0, (s.0, s.1, e.1))
    says_behind ReadFault s = let e = quiet_behind s.2 in (e.0, (s.0, s.1, e.1))
    says_behind TooLong s = let e = quiet_behind s.2 in (e.0, (s.0, s.1, e.1))
    says_behind BadJson s = let e = quiet_behind s.1.1 in (e.0, (s.0, (s.1.0, e.1)))
    says_behind BadScript s = let e = quiet_behind s.1.1 in (e.0, (s.0, (s.1.0, e.1)))
    says_behind (InvalidModule n rule place) s = let e = quiet_behind s.1.1 in (e.0, (s.0, (s.1.0, e.1)))
    says_behind OutOfMemory s = let e = memory_ended _ s.1 in (e.0, (s.0, e.1))
    says_behind WriteFault s = let e = broken_behind _ s.1 in (e.0, (s.0, e.1))

-- what was taken is a front of the script
abbrev told_in : Option (List ℕ) → List ℕ
told_in None = []
told_in (Some bytes) = bytes

pub front_of : (script left taken rest : List ℕ) → left ≡ script → Some left ≡ before taken (Some rest) → script ≡ taken ++ rest
front_of script left taken rest same e = sym same ∙ ap told_in e

-- and of a sink that held nothing before, where the epochs were counted from 0 on, and the words are those of a script that
-- is read
pub held_session : (e0 e1 : ℕ) (h : SessionParts) (old new : RoomState) (words : List (List ℕ)) (script taken rest : List ℕ)
    (r : Status) → e0 ≡ 0 → old ≡ room_state old.room [] 0 false → words ≡ run_words → script ≡ taken ++ rest →
    (origin_of words ≡ Some Input → IsOfWhole r → rest ≡ []) →
    Says CountsReadings e0 e1 h (Some (old.room ∷ old.held)) (Some (new.room ∷ new.held)) words taken r →
    ((origin : Origin) (read : Script) → task_of words script ≡ RunOf origin read → r ≡ OutOfMemory →
    Quiet {E = ℕ} e0 e1 h (Some (old.room ∷ old.held)) (Some (new.room ∷ new.held))
    ⊎ ShortOfMemory CountsReadings e0 e1 h (Some (old.room ∷ old.held)) (Some (new.room ∷ new.held)) origin read) →
    (new.room ≡ old.room) × HasEnded script new.held r
held_session e0 e1 h old new words script taken rest r first empty_before asked front whole says memory =
    let after : Option (List ℕ) = Some (new.room ∷ new.held) in
    let none : old.held ≡ [] = ap (λ (s : RoomState). s.held) empty_before in
    let counted : Says CountsReadings 0 e1 h (Some (old.room ∷ old.held)) after words taken r =
    subst (λ (n : ℕ). Says CountsReadings n e1 h (Some (old.room ∷ old.held)) after words taken r) first says in
    let behind : Says CountsReadings 0 e1 h (Some (old.room ∷ [])) after words taken r =
    subst (λ (b : List ℕ). Says CountsReadings 0 e1 h (Some (old.room ∷ b)) after words taken r) none counted in
    let read_words : Says CountsReadings 0 e1 h (Some (old.room ∷ [])) after run_words taken r =
    subst (λ (ws : List (List ℕ)). Says CountsReadings 0 e1 h (Some (old.room ∷ [])) after ws taken r) asked behind in
    let told = says_behind CountsReadings 0 e1 h old.room new.room new.held run_words taken r read_words in
    let Short : ℕ → List ℕ → Origin → Script → Type 0 = λ n b origin read.
    Quiet {E = ℕ} n e1 h (Some (old.room ∷ b)) after
    ⊎ ShortOfMemory CountsReadings n e1 h (Some (old.room ∷ b)) after origin read in (
      told.0,
      record {
        epochs = e1;
        parts = h;
        taken = taken;
        rest = rest;
        front = front;
        whole = λ k. whole (ap origin_of asked) k;
        says = told.1;
        out_of_memory = λ origin read asks short.
            out_of_memory_behind CountsReadings 0 e1 h old.room new.room new.held origin read
            (subst (λ (b : List ℕ). Short 0 b origin read) none
            (subst (λ (n : ℕ). Short n old.held origin read) first
            (memory origin read (ap (λ (ws : List (List ℕ)). task_of ws script) asked ∙ asks) short)));
      },
    )

-- where memory was wanting before anything ran
pub short_ended : (script : List ℕ) → HasEnded script [] OutOfMemory
short_ended script =
    let quiet : Quiet {E = ℕ} 0 0 empty (Some []) (Some []) = record { session = refl; sink = refl; unread = refl } in
    record {
      epochs = 0;
      parts = empty;
      taken = [];
      rest = script;
      front = refl;
      whole = λ k. absurd k;
      says = (record { asked = λ e. absurd cc; within = omega arith; nothing = λ _. refl }, inl quiet);
      out_of_memory = λ origin read asks is_short. inl quiet;
    }

pub none_ran : (script out : List ℕ) → HasRun script out out 0 OutOfMemory
none_ran script out = record { written = []; counted = refl; room = refl; ended = short_ended script }
