-- A call that began and has not ended: where it stands, what is still due of it, and how it goes on, slice by slice. This
-- project's own.
use Rattle.std.specs.Prelude.{◌≡◌, ℕ, ◌+◌, ◌≤◌, ◌<◌, List, [], ◌∷◌, ◌++◌, flat_map, Option, Some, None}
use Rattle.wasm_values.specs.declared.refusals.Refusal.TheVariants.{TurnLimit}
use Rattle.spec_machine.specs.FunctionCalls.{Called}
use Rattle.spec_machine.specs.Machine.{Machine}
use Rattle.spec_machine.specs.declared.reply.Reply.{Reply}
use Rattle.spec_machine.specs.declared.reply.Reply.TheVariants.{Refused}
use Rattle.spec_execution.specs.Askings.{Question, Answer, Asking, Chain, answers_in}
use Rattle.spec_execution.specs.Commands.{Finish, Replied, Early, by_run, call_reply, replied}
use Rattle.spec_execution.specs.Outcomes.{World, world, Outcome, Over, Stopped, Waiting, Exhausted}
use Rattle.spec_execution.specs.Runs.{outermost_call, turns_of}
use Rattle.law_confined.specs.Laws.{left}

-- what is done from a world
abbrev pub Doing : Type 0
Doing = World → Outcome

-- so many turns, with these questions and answers, lead from what is due in one store to what is due in another: whatever
-- was heard before, and however many turns and answers are left
pub record Leads (a : Doing) (m : Machine) (spent : ℕ) (heard : List Asking) (b : Doing) (n : Machine) : Type 0 where
  pub by : (extra : ℕ) (before : List Asking) (rest : List Answer) →
      a (world m (spent + extra) before (answers_in heard ++ rest)) ≡ b (world n extra (before ++ heard) rest)

-- ---- an open call

-- the store as it is now, the turns that were made, and what is due
pub record Open : Type 0 where
  pub machine : Machine
  pub made : ℕ
  pub due : Doing

abbrev pub opened : Machine → ℕ → Doing → Open
opened m made due = record { machine = m; made = made; due = due }

-- the call whole, and the same as an open call of which nothing was done
abbrev pub whole : Called → Doing
whole c w = outermost_call w c

abbrev pub begun : Called → Machine → Open
begun c first = opened first 0 (whole c)

-- the call that began in this store is this open call by what it heard, with no more turns than its engine gives to it
pub record Stands (c : Called) (first : Machine) (heard : List Asking) (x : Open) : Type 0 where
  pub within : x.made ≤ turns_of first
  pub leads : Leads (whole c) first x.made heard x.due x.machine

-- ---- where it rests

-- where an outcome ended, if nothing of the outside was lacking: no answer, and no memory of a step of the host
abbrev pub halted : Outcome → Option World
halted (Over (Waiting q) w) = None
halted (Over Exhausted w) = None
halted o = Some (left o)

-- with no turn left nothing more is done, and nobody is asked: so it is before a check, and before a step of a body
abbrev pub Rests : Open → Type 0
Rests x =
    (before : List Asking) (rest : List Answer) →
    halted (x.due (world x.machine 0 before rest)) ≡ Some (world x.machine 0 before rest)

-- such a place of a call, where it may pause
pub record IsPaused (c : Called) (first : Machine) (heard : List Asking) (x : Open) : Type 0 where
  pub stands : Stands c first heard x
  pub rests : Rests x

-- ---- how it goes on

-- by a turn at least it becomes another open call
pub record GoesOn (x : Open) (heard : List Asking) (y : Open) : Type 0 where
  pub spent : ℕ
  pub goes : 0 < spent
  pub made : y.made ≡ x.made + spent
  pub leads : Leads x.due x.machine spent heard y.due y.machine

-- a slice, or an answer from outside: what was heard in it, and the open call behind it
pub record Part : Type 0 where
  pub heard : List Asking
  pub next : Open

-- one part after another
abbrev pub InParts : Open → List Part → Open → Type 0
InParts x [] y = y ≡ x
InParts x (part ∷ parts) y = GoesOn x part.heard part.next × InParts part.next parts y

abbrev pub all_heard : List Part → List Asking
all_heard parts = flat_map (λ (part : Part). part.heard) parts

-- what is outside went so by what was heard in each
abbrev pub HearsInParts : {W : Type 0} → (W → Question → Answer → W → Type 0) → W → List Part → W → Type 0
HearsInParts moves old [] new = new ≡ old
HearsInParts moves old (part ∷ parts) new = (mid : _) × Chain moves old part.heard mid × HearsInParts moves mid parts new

-- ---- how it ends

-- the reply of a finished call and where it stands then; one that was stopped had as many turns as it was given
abbrev pub told_finish : Finish → Option (Reply × World)
told_finish (Replied reply w) = Some (reply, w)
told_finish (Early Stopped w) = Some (Refused TurnLimit, w)
told_finish (Early e w) = None

abbrev pub told : Called → Outcome → Option (Reply × World)
told c o = told_finish (by_run Early (call_reply c) replied o)

-- what is due in a store ends so with so many turns, by what is heard: whatever was heard before, and whatever answers are
-- left over
module _ {O : Type 0} (tells : Outcome → O) where
  abbrev pub Ends : Doing → Machine → ℕ → List Asking → (World → O) → Machine → ℕ → Type 0
  Ends a m turns heard ending n unused =
      (before : List Asking) (rest : List Answer) →
      tells (a (world m turns before (answers_in heard ++ rest))) ≡ ending (world n unused (before ++ heard) rest)

-- by this reply
abbrev pub Replies : Called → Doing → Machine → ℕ → List Asking → Reply → Machine → ℕ → Type 0
Replies c a m turns heard reply n unused = Ends (told c) a m turns heard (λ w. Some (reply, w)) n unused
