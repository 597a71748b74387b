-- What a part of a call comes to, among functions of instances and of the host. This project's own.
use Rattle.std.specs.Prelude.{◌≡◌, ℕ, ◌≤◌, ◌<◌, ◌+◌, ◌*◌, List, [], length}
use Rattle.spec_execution.specs.Askings.{Question, Answer, Asking, Chain}
use Rattle.code_leaps.specs.Leading.{Doing, Setting, Leads, Stops, Halts}
use Rattle.code_hosts.specs.declared.replies.How.{How}
use Rattle.code_hosts.specs.declared.replies.How.TheVariants as how
use Rattle.code_hosts.specs.Behind.{ended}
use Rattle.code_hosts.specs.Hosting.{outwards}
use Rattle.code_hosts.specs.Replies.{Exhausts}
use Rattle.code_hosts.specs.States.{around_of, due_of}
use Rattle.code_hosts.specs.declared.rounds.Round.{Round}
use Rattle.code_hosts.specs.declared.rounds.Round.TheVariants as round
use Rattle.code_hosts.specs.declared.rounds.Lack.{Lack}
use Rattle.code_hosts.specs.declared.rounds.Lack.TheVariants as lack
use Rattle.code_hosts.specs.declared.states.Open.{Open}
use Rattle.code_hosts.specs.declared.states.Open.TheVariants as working
use Rattle.code_hosts.specs.declared.states.Waiting.{Waiting}

-- the end of a function goes outwards; the number of turns is no such end
abbrev pub ends_in : List Waiting → How → Doing
ends_in around how w = outwards (around_of around) (ended how w)

abbrev pub IsEnd : How → Type 0
IsEnd how.TurnLimit = ⊥
IsEnd h = Unit {0}

-- an end is that of the call where nothing waits any more
abbrev pub IsLast : Round → List Waiting → Type 0
IsLast (round.Ends how) around = around ≡ []
IsLast x around = Unit {0}

-- no more parts than these are ahead, with so many turns left: a body takes a turn and leaves one function more waiting at
-- the most, code leads to a body, and an end to less that waits
abbrev pub ahead : Open → List Waiting → ℕ → ℕ
ahead (working.Code t) around left = 4 * left + length around + 2
ahead (working.Body a why) around left = 4 * left + length around

-- and so there are less of them with each part
abbrev pub IsNearer : Round → List Waiting → ℕ → ℕ → Type 0
IsNearer (round.Goes now) around left before = ahead now around left < before
IsNearer (round.Ends how) around left before = 4 * left + length around + 1 < before
IsNearer round.Limit around left before = Unit {0}

-- so many of the turns that are left, with these questions and answers, lead on, to an end of the function at work, or
-- are all
module _ {H : Type 0} (g : Setting H) (due : Doing) (h : H) (left spent : ℕ) (heard : List Asking)
    (around : List Waiting) (h' : H) where
  abbrev pub RoundBy : Round → Type 0
  RoundBy (round.Goes now) = Leads g due h spent heard (due_of now around) h'
  RoundBy (round.Ends how) = Leads g due h spent heard (ends_in around how) h' × IsEnd how
  RoundBy round.Limit = Stops g due h spent heard h' × (spent ≡ left)

  -- or there was no memory: in the run, or in a step of the host, for which a turn was left
  abbrev pub LacksBy : Lack → Type 0
  LacksBy lack.Run = Halts g due h spent heard h'
  LacksBy lack.Step = Exhausts g due h spent heard h' × (spent < left)

module _ {H W : Type 0} (g : Setting H) (moves : W → Question → Answer → W → Type 0) (due : Doing) (h : H) (o : W)
    (left : ℕ) where
  pub record Rounds (spent : ℕ) (round : Round) (around : List Waiting) (h' : H) (o' : W) : Type 0 where
    pub within : spent ≤ left
    pub heard : List Asking
    pub chain : Chain moves o heard o'
    pub by : RoundBy g due h left spent heard around h' round

  pub record Lacks (spent : ℕ) (lack : Lack) (h' : H) (o' : W) : Type 0 where
    pub within : spent ≤ left
    pub heard : List Asking
    pub chain : Chain moves o heard o'
    pub by : LacksBy g due h left spent heard [] h' lack
