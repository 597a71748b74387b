-- What each status comes to, by what the parts of a run tell.
use Rattle.std.proofs.Common.{◌≡◌, ◌⊎◌, inl, inr, ℕ, ◌<◌, ◌≤◌, List, ◌++◌, length, length-append, Bool, true, false, Option, Some, None, Result, Ok, Err, refl, sym, ◌∙◌, ap, subst, if◌then◌else◌, arith}
use Rattle.std.specs.Prelude.{IfErr, nat_le}
use Rattle.std.proofs.lemmas.Bool.{le-leb}
use Rattle.std.proofs.lemmas.Bool.Decides.{leb_tells}
use Rattle.std.proofs.lemmas.List.{append-nil}
use Rattle.wasm_streams.specs.Streams.{before, after, Fronts, HasNothing}
use Rattle.wasm_call.specs.Outside.{Readings}
use Rattle.law_replay.specs.Tapes.{TapeParts}
use Rattle.wasm_replay.specs.declared.ends.ReplayEnd.{ReplayEnd}
use Rattle.wasm_replay.specs.declared.ends.ReplayEnd.TheVariants as end
use Rattle.wasm_run.specs.Sessions.{limit}
use Rattle.wasm_run.specs.declared.status.Status.TheVariants as session
use Rattle.replay_run.specs.Inputs.{Typed, Task, NoRun, Recording, Replaying, recording, replaying, replaying_by, task_by, task_in, task_from, task_of}
use Rattle.replay_run.specs.Prepared.{IsFault}
use Rattle.replay_run.specs.Statuses.{Comes, Fails, IsAfterInput, IsQuiet, IsRefusal, IsTold, NotRecorded, Recorded, Replayed, ReplaysFor, Says, status_of}
use Rattle.replay_run.specs.Words.{way_of}
use Rattle.replay_run.specs.declared.status.Status.{Status}
use Rattle.replay_run.specs.declared.status.Status.TheVariants.{Session, Hooked, BadTape, UnknownType, RoomSpent, NotSame}
use Rattle.replay_run.specs.declared.way.Way.{Way}

-- ---- a script that is refused

module _ {E : Type 0} (readings : Readings E) (e : E) where
  pub record_refused :
      (due : Result Typed Status) (s : Status) → IsFault due s → Fails readings e e (recording due) s
  record_refused due (Session session.OutOfMemory) f = tt
  record_refused due (Session session.BadJson) f = record { asks = ap recording f; unread = refl }
  record_refused due (Session session.BadScript) f = record { asks = ap recording f; unread = refl }
  record_refused due (Session (session.InvalidModule n rule place)) f = record { asks = ap recording f; unread = refl }
  record_refused due (Session session.Done) f = absurd f
  record_refused due (Session session.BadWords) f = absurd f
  record_refused due (Session session.ReadFault) f = absurd f
  record_refused due (Session session.TooLong) f = absurd f
  record_refused due (Session session.WriteFault) f = absurd f
  record_refused due Hooked f = record { asks = ap recording f; unread = refl }
  record_refused due BadTape f = absurd f
  record_refused due UnknownType f = absurd f
  record_refused due RoomSpent f = absurd f
  record_refused due NotSame f = absurd f

  -- a refusal tells why nothing came of it
  pub refusal_fails : (task : Task) (s : Status) → IsRefusal task s → Fails readings e e task s
  refusal_fails task (Session session.OutOfMemory) f = tt
  refusal_fails task (Session session.BadJson) f = record { asks = f; unread = refl }
  refusal_fails task (Session session.BadScript) f = record { asks = f; unread = refl }
  refusal_fails task (Session (session.InvalidModule n rule place)) f = record { asks = f; unread = refl }
  refusal_fails task (Session session.Done) f = absurd f
  refusal_fails task (Session session.BadWords) f = absurd f
  refusal_fails task (Session session.ReadFault) f = absurd f
  refusal_fails task (Session session.TooLong) f = absurd f
  refusal_fails task (Session session.WriteFault) f = absurd f
  refusal_fails task Hooked f = record { asks = f; unread = refl }
  refusal_fails task BadTape f = record { asks = f; unread = refl }
  refusal_fails task UnknownType f = absurd f
  refusal_fails task RoomSpent f = absurd f
  refusal_fails task NotSame f = absurd f

pub replay_refused :
    (due : Result Typed Status) (line : List ℕ) (s : Status) → IsFault due s → IsRefusal (replaying due line) s
replay_refused due line (Session session.OutOfMemory) f = tt
replay_refused due line (Session session.BadJson) f = ap (λ (d : Result Typed Status). replaying d line) f
replay_refused due line (Session session.BadScript) f = ap (λ (d : Result Typed Status). replaying d line) f
replay_refused due line (Session (session.InvalidModule n rule place)) f =
    ap (λ (d : Result Typed Status). replaying d line) f
replay_refused due line (Session session.Done) f = absurd f
replay_refused due line (Session session.BadWords) f = absurd f
replay_refused due line (Session session.ReadFault) f = absurd f
replay_refused due line (Session session.TooLong) f = absurd f
replay_refused due line (Session session.WriteFault) f = absurd f
replay_refused due line Hooked f = ap (λ (d : Result Typed Status). replaying d line) f
replay_refused due line BadTape f = absurd f
replay_refused due line UnknownType f = absurd f
replay_refused due line RoomSpent f = absurd f
replay_refused due line NotSame f = absurd f

pub fault_after : {A : Type 0} (due : Result A Status) (s : Status) → IsFault due s → IsAfterInput s
fault_after due (Session session.OutOfMemory) f = tt
fault_after due (Session session.BadJson) f = tt
fault_after due (Session session.BadScript) f = tt
fault_after due (Session (session.InvalidModule n rule place)) f = tt
fault_after due (Session session.Done) f = absurd f
fault_after due (Session session.BadWords) f = absurd f
fault_after due (Session session.ReadFault) f = absurd f
fault_after due (Session session.TooLong) f = absurd f
fault_after due (Session session.WriteFault) f = absurd f
fault_after due Hooked f = tt
fault_after due BadTape f = tt
fault_after due UnknownType f = tt
fault_after due RoomSpent f = tt
fault_after due NotSame f = tt

pub refusal_after : (task : Task) (s : Status) → IsRefusal task s → IsAfterInput s
refusal_after task (Session session.OutOfMemory) f = tt
refusal_after task (Session session.BadJson) f = tt
refusal_after task (Session session.BadScript) f = tt
refusal_after task (Session (session.InvalidModule n rule place)) f = tt
refusal_after task (Session session.Done) f = absurd f
refusal_after task (Session session.BadWords) f = absurd f
refusal_after task (Session session.ReadFault) f = absurd f
refusal_after task (Session session.TooLong) f = absurd f
refusal_after task (Session session.WriteFault) f = absurd f
refusal_after task Hooked f = tt
refusal_after task BadTape f = tt
refusal_after task UnknownType f = tt
refusal_after task RoomSpent f = tt
refusal_after task NotSame f = tt

-- ---- a record without a text

module _ {E : Type 0} (readings : Readings E) (e0 e1 : E) where
  pub unrecorded :
      (task : Task) (t : Typed) (s : Status) → task ≡ Recording t → NotRecorded readings e0 e1 t s
      → Fails readings e0 e1 task s
  unrecorded task t (Session session.OutOfMemory) a f = tt
  unrecorded task t (Session session.BadJson) a f = absurd f
  unrecorded task t (Session session.BadScript) a f = absurd f
  unrecorded task t (Session (session.InvalidModule n rule place)) a f = absurd f
  unrecorded task t (Session session.Done) a f = absurd f
  unrecorded task t (Session session.BadWords) a f = absurd f
  unrecorded task t (Session session.ReadFault) a f = absurd f
  unrecorded task t (Session session.TooLong) a f = absurd f
  unrecorded task t (Session session.WriteFault) a f = absurd f
  unrecorded task t Hooked a f = absurd f
  unrecorded task t BadTape a f = absurd f
  unrecorded task t UnknownType a f = record { typed = t; asks = a; cause = f }
  unrecorded task t RoomSpent a f = record { typed = t; asks = a; cause = f }
  unrecorded task t NotSame a f = absurd f

  -- and so where it is told of a result
  pub unrecorded_if :
      {A : Type 0} (due : Result Typed Status) (t : Typed) (r : Result A Status) → due ≡ Ok t
      → IfErr r (λ s. NotRecorded readings e0 e1 t s) → IfErr r (λ s. Fails readings e0 e1 (recording due) s)
  unrecorded_if due t (Ok a) d f = tt
  unrecorded_if due t (Err s) d f = unrecorded (recording due) t s (ap recording d) f

  pub unrecorded_after : (t : Typed) (s : Status) → NotRecorded readings e0 e1 t s → IsAfterInput s
  unrecorded_after t (Session session.OutOfMemory) f = tt
  unrecorded_after t (Session session.BadJson) f = absurd f
  unrecorded_after t (Session session.BadScript) f = absurd f
  unrecorded_after t (Session (session.InvalidModule n rule place)) f = absurd f
  unrecorded_after t (Session session.Done) f = absurd f
  unrecorded_after t (Session session.BadWords) f = absurd f
  unrecorded_after t (Session session.ReadFault) f = absurd f
  unrecorded_after t (Session session.TooLong) f = absurd f
  unrecorded_after t (Session session.WriteFault) f = absurd f
  unrecorded_after t Hooked f = absurd f
  unrecorded_after t BadTape f = absurd f
  unrecorded_after t UnknownType f = tt
  unrecorded_after t RoomSpent f = tt
  unrecorded_after t NotSame f = absurd f

  -- ---- what is written

  end_told : (ended : ReplayEnd) → IsTold (status_of ended)
  end_told end.Same = tt
  end_told (end.Differs at recorded asked) = tt
  end_told (end.Ended kind) = tt
  end_told (end.Left kind) = tt

  pub come_told : (task : Task) (text : List ℕ) (s : Status) → Comes readings e0 e1 task text s → IsTold s
  come_told task text s (inl r) = subst IsTold (sym r.status_is) tt
  come_told task text s (inr r) = subst IsTold (sym r.status_is) (end_told r.ended)

  module _ (old new : Option (List ℕ)) where
    says_told :
        (task : Task) (text : List ℕ) (s : Status) → IsTold s → Comes readings e0 e1 task text s → new ≡ after text old
        → Says readings e0 e1 old new task s
    says_told task text (Session session.Done) k c w = record { text = text; comes = c; wrote = w }
    says_told task text (Session session.BadWords) k c w = absurd k
    says_told task text (Session session.ReadFault) k c w = absurd k
    says_told task text (Session session.TooLong) k c w = absurd k
    says_told task text (Session session.BadJson) k c w = absurd k
    says_told task text (Session session.BadScript) k c w = absurd k
    says_told task text (Session (session.InvalidModule n rule place)) k c w = absurd k
    says_told task text (Session session.OutOfMemory) k c w = absurd k
    says_told task text (Session session.WriteFault) k c w = absurd k
    says_told task text Hooked k c w = absurd k
    says_told task text BadTape k c w = absurd k
    says_told task text UnknownType k c w = absurd k
    says_told task text RoomSpent k c w = absurd k
    says_told task text NotSame k c w = record { text = text; comes = c; wrote = w }

    -- a text was written, and its status is due
    pub says_written :
        (task : Task) (text : List ℕ) (s : Status) → Comes readings e0 e1 task text s → new ≡ after text old
        → Says readings e0 e1 old new task s
    says_written task text s c w = says_told task text s (come_told task text s c) c w

    -- nothing was written
    pub says_unwritten :
        (task : Task) (s : Status) → Fails readings e0 e1 task s → new ≡ old → Says readings e0 e1 old new task s
    says_unwritten task (Session session.Done) f w = absurd f
    says_unwritten task (Session session.BadWords) f w = record { fails = f; sink = w }
    says_unwritten task (Session session.ReadFault) f w = record { fails = f; sink = w }
    says_unwritten task (Session session.TooLong) f w = record { fails = f; sink = w }
    says_unwritten task (Session session.BadJson) f w = record { fails = f; sink = w }
    says_unwritten task (Session session.BadScript) f w = record { fails = f; sink = w }
    says_unwritten task (Session (session.InvalidModule n rule place)) f w = record { fails = f; sink = w }
    says_unwritten task (Session session.OutOfMemory) f w = record { fails = f; sink = w }
    says_unwritten task (Session session.WriteFault) f w = absurd f
    says_unwritten task Hooked f w = record { fails = f; sink = w }
    says_unwritten task BadTape f w = record { fails = f; sink = w }
    says_unwritten task UnknownType f w = record { fails = f; sink = w }
    says_unwritten task RoomSpent f w = record { fails = f; sink = w }
    says_unwritten task NotSame f w = absurd f

  -- a status that tells why nothing came of it is none of those behind a text
  pub fails_untold : (task : Task) (s : Status) → Fails readings e0 e1 task s → IsTold s → ⊥
  fails_untold task (Session session.Done) f k = f
  fails_untold task (Session session.BadWords) f k = k
  fails_untold task (Session session.ReadFault) f k = k
  fails_untold task (Session session.TooLong) f k = k
  fails_untold task (Session session.BadJson) f k = k
  fails_untold task (Session session.BadScript) f k = k
  fails_untold task (Session (session.InvalidModule n rule place)) f k = k
  fails_untold task (Session session.OutOfMemory) f k = k
  fails_untold task (Session session.WriteFault) f k = k
  fails_untold task Hooked f k = k
  fails_untold task BadTape f k = k
  fails_untold task UnknownType f k = k
  fails_untold task RoomSpent f k = k
  fails_untold task NotSame f k = f

-- behind a text comes no fault of the sink, and it is no quiet status
pub told_loud : (s : Status) → IsTold s → IsQuiet s → ⊥
told_loud (Session session.Done) k q = q
told_loud (Session session.BadWords) k q = k
told_loud (Session session.ReadFault) k q = k
told_loud (Session session.TooLong) k q = k
told_loud (Session session.BadJson) k q = k
told_loud (Session session.BadScript) k q = k
told_loud (Session (session.InvalidModule n rule place)) k q = k
told_loud (Session session.OutOfMemory) k q = k
told_loud (Session session.WriteFault) k q = k
told_loud Hooked k q = k
told_loud BadTape k q = k
told_loud UnknownType k q = k
told_loud RoomSpent k q = k
told_loud NotSame k q = q

pub told_after : (s : Status) → IsTold s → IsAfterInput s
told_after (Session session.Done) k = tt
told_after (Session session.BadWords) k = absurd k
told_after (Session session.ReadFault) k = absurd k
told_after (Session session.TooLong) k = absurd k
told_after (Session session.BadJson) k = tt
told_after (Session session.BadScript) k = tt
told_after (Session (session.InvalidModule n rule place)) k = tt
told_after (Session session.OutOfMemory) k = tt
told_after (Session session.WriteFault) k = tt
told_after Hooked k = tt
told_after BadTape k = tt
told_after UnknownType k = tt
told_after RoomSpent k = tt
told_after NotSame k = tt

pub told_unfailed : (s : Status) → IsTold s → s ≡ Session session.WriteFault → ⊥
told_unfailed s k e = subst IsTold e k

-- ---- the input

-- what was taken of a source that has nothing left is all that it had
whole : (taken input : List ℕ) (left : Option (List ℕ)) → Some input ≡ before taken left → HasNothing left → taken ≡ input
whole taken input None e n = cc
whole taken input (Some rest) e n =
    let same : input ≡ taken ++ rest = cc in
    sym (append-nil taken) ∙ ap (λ r. taken ++ r) (sym n) ∙ sym same

-- of a source that tells what it has left no more was taken than it had
pub at_least : (taken input : List ℕ) (left : Option (List ℕ)) → Some input ≡ before taken left → length taken ≤ length input
at_least taken input None e = cc
at_least taken input (Some rest) e =
    let same : input ≡ taken ++ rest = cc in
    omega (arith, ap (λ (xs : List ℕ). length xs) same, length-append taken rest)

-- within the limit the input is what is asked for
pub task_within :
    (words : List (List ℕ)) (w : Way) (items taken : List ℕ) → way_of words ≡ Some w → items ≡ taken
    → length taken ≤ limit → task_by w items ≡ task_of words taken
task_within words w items taken f i k =
    ap (λ (xs : List ℕ). task_by w xs) i
    ∙ sym (ap (λ (b : Bool). if b then task_by w taken else NoRun (Session session.TooLong)) (le-leb (length taken) limit k))
    ∙ sym (ap (λ (o : Option Way). task_from o taken) f)

-- of all that a source had, too
pub task_whole :
    (words : List (List ℕ)) (w : Way) (input taken items : List ℕ) (left : Option (List ℕ)) → way_of words ≡ Some w
    → Some input ≡ before taken left → HasNothing left → items ≡ taken → length taken ≤ limit
    → task_by w items ≡ task_of words input
task_whole words w input taken items left f e n i k =
    task_within words w items taken f i k ∙ ap (λ (xs : List ℕ). task_of words xs) (whole taken input left e n)

-- what is said of what was asked for is said of the words and the input
module _ {E : Type 0} (readings : Readings E) (e0 e1 : E) (old new : Option (List ℕ)) where
  pub says_within :
      (words : List (List ℕ)) (w : Way) (items taken : List ℕ) (s : Status) → way_of words ≡ Some w → items ≡ taken
      → length taken ≤ limit → Says readings e0 e1 old new (task_by w items) s
      → Says readings e0 e1 old new (task_of words taken) s
  says_within words w items taken s f i k h =
      subst (λ (task : Task). Says readings e0 e1 old new task s) (task_within words w items taken f i k) h

  pub says_whole :
      (words : List (List ℕ)) (w : Way) (input taken items : List ℕ) (left : Option (List ℕ)) (s : Status)
      → way_of words ≡ Some w → Some input ≡ before taken left → HasNothing left → items ≡ taken
      → length taken ≤ limit → Says readings e0 e1 old new (task_by w items) s
      → Says readings e0 e1 old new (task_of words input) s
  says_whole words w input taken items left s f e n i k h =
      subst (λ (task : Task). Says readings e0 e1 old new task s)
      (task_whole words w input taken items left f e n i k) h

past : (a b : ℕ) → b < a → nat_le a b ≡ false
past a b h = by (leb_tells a b) where
  by : ((nat_le a b ≡ true) × (a ≤ b)) ⊎ ((nat_le a b ≡ false) × (b < a)) → nat_le a b ≡ false
  by (inl p) = absurd (omega (arith, h, p.1))
  by (inr p) = p.0

-- past the limit it is too long
pub task_past :
    (words : List (List ℕ)) (w : Way) (input : List ℕ) → way_of words ≡ Some w → limit < length input
    → task_of words input ≡ NoRun (Session session.TooLong)
task_past words w input f k =
    ap (λ (o : Option Way). task_from o input) f
    ∙ ap (λ (b : Bool). if b then task_by w input else NoRun (Session session.TooLong)) (past (length input) limit k)

-- words that are none of the two ask for nothing
pub task_of_none :
    (words : List (List ℕ)) (input : List ℕ) → way_of words ≡ None → task_of words input ≡ NoRun (Session session.BadWords)
task_of_none words input f = ap (λ (o : Option Way). task_from o input) f

-- a status that comes after an input is none of those that come before
pub after_words : (s : Status) → IsAfterInput s → s ≡ Session session.BadWords → ⊥
after_words s a e = subst IsAfterInput e a

pub after_read : (s : Status) → IsAfterInput s → s ≡ Session session.ReadFault → ⊥
after_read s a e = subst IsAfterInput e a
