-- The end of a call from outside of all code, as its caller sees it, and the end for want of memory. This project's own.
use Rattle.std.specs.Prelude.{◌≡◌, ℕ, suc, ◌+◌, ◌≤◌, ◌<◌, ◌⊎◌, Bool, true, false, List, [], ◌++◌, reverse}
use Rattle.spec_machine.specs.Machine.{Machine}
use Rattle.spec_execution.specs.Askings.{Question, Answer, Asking, answers_in, Chain}
use Rattle.spec_execution.specs.Outcomes.{state, Values, Over, Exhausted, Trapped, Refused, Stuck}
use Rattle.code_leaps.specs.Leading.{Doing, Setting, Leads, Stops, Halts, at}
use Rattle.code_hosts.specs.declared.replies.How.{How}
use Rattle.code_hosts.specs.declared.replies.How.TheVariants as how
use Rattle.code_hosts.specs.declared.replies.Reply.{Reply}
use Rattle.code_hosts.specs.declared.replies.Unfinished.{Unfinished}

-- of so many turns so many, with these questions and answers, lead to this end
module _ {H : Type 0} (g : Setting H) (due : Doing) (h : H) (turns spent : ℕ) (heard : List Asking)
    (h' : H) where
  abbrev pub RepliesBy : How → Type 0
  RepliesBy (how.Returned v) = Leads g due h spent heard (λ w. Values (state w [] (reverse v.items))) h'
  RepliesBy (how.Trapped t) = Leads g due h spent heard (λ w. Over (Trapped t) w) h'
  RepliesBy (how.Refused why) = Leads g due h spent heard (λ w. Over (Refused why) w) h'
  RepliesBy how.Stuck = Leads g due h spent heard (λ w. Over Stuck w) h'
  RepliesBy how.TurnLimit = Stops g due h spent heard h' × (spent ≡ turns)

module _ {H W : Type 0} (g : Setting H) (moves : W → Question → Answer → W → Type 0) (due : Doing) (h : H) (o : W)
    (turns : ℕ) where
  -- there are questions, and answers by which what is outside went on, at which the definitions come to this reply, and
  -- to this store
  pub record Comes (reply : Reply) (h' : H) (o' : W) : Type 0 where
    pub within : reply.turns ≤ turns
    pub heard : List Asking
    pub chain : Chain moves o heard o'
    pub replies : RepliesBy g due h turns reply.turns heard h' reply.how

  -- there was no memory: with so many turns as were taken the definitions come to this store
  pub record Breaks (u : Unfinished) (h' : H) (o' : W) : Type 0 where
    pub within : u.turns ≤ turns
    pub heard : List Asking
    pub chain : Chain moves o heard o'
    pub halts : Halts g due h u.turns heard h'

module _ {H : Type 0} (g : Setting H) where
  -- so many turns, with these questions and answers, lead to a step of the host that had no memory: the turn that it
  -- would have taken is left
  pub record Exhausts (a : Doing) (h : H) (spent : ℕ) (heard : List Asking) (h' : H) : Type 0 where
    pub by : (base : Machine) → g.is_base base → (extra : ℕ) (before : List Asking) (rest : List Answer) →
        a (at g base h (spent + suc extra) before (answers_in heard ++ rest))
        ≡ Over Exhausted (at g base h' (suc extra) (before ++ heard) rest)

module _ {H W : Type 0} (g : Setting H) (moves : W → Question → Answer → W → Type 0) (due : Doing) (h : H) (o : W)
    (turns : ℕ) where
  -- the same, of so many turns
  pub record Lacks (u : Unfinished) (h' : H) (o' : W) : Type 0 where
    pub within : u.turns < turns
    pub heard : List Asking
    pub chain : Chain moves o heard o'
    pub exhausts : Exhausts g due h u.turns heard h'

  -- there was no memory, of a run or of a step of the host
  abbrev pub BreaksOff : Unfinished → H → W → Type 0
  BreaksOff u h' o' = Breaks g moves due h o turns u h' o' ⊎ Lacks u h' o'

-- the hook is told of the return of a call that ended so
abbrev pub is_told : How → Bool
is_told (how.Returned v) = true
is_told (how.Trapped t) = true
is_told (how.Refused why) = true
is_told how.Stuck = false
is_told how.TurnLimit = false
