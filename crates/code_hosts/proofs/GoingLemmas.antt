-- The parts of a call, one after another, to the end of the function that it began with.
use Rattle.std.proofs.Common.{◌≡◌, ℕ, ◌+◌, ◌-◌, ◌≤◌, List, [], ◌++◌, refl, sym, ap, ◌∙◌, subst, arith}
use Rattle.spec_execution.specs.Askings.{Question, Answer, answers_in}
use Rattle.code_leaps.specs.Leading.{Doing, Setting, at, halted, Halts}
use Rattle.code_leaps.specs.Turns.{Passes}
use Rattle.code_run.proofs.Runs.{passes_none}
use Rattle.code_hosts.specs.Replies.{RepliesBy, Comes}
use Rattle.code_hosts.specs.declared.replies.How.{How}
use Rattle.code_hosts.specs.declared.replies.How.TheVariants as how
use Rattle.code_hosts.specs.declared.replies.Reply.{Reply}
use Rattle.code_hosts.specs.Hosting.{does}
use Rattle.code_hosts.specs.Rounds.{ends_in, IsLast, RoundBy, Rounds, Lacks}
use Rattle.code_hosts.specs.States.{open_of, around_of, due_of}
use Rattle.code_hosts.specs.declared.rounds.Lack.{Lack}
use Rattle.code_hosts.specs.declared.rounds.Round.{Round}
use Rattle.code_hosts.specs.declared.rounds.Round.TheVariants as round
use Rattle.code_hosts.specs.declared.states.Open.{Open}
use Rattle.code_hosts.specs.declared.states.Waiting.{Waiting}
use Rattle.code_hosts.proofs.ContextLemmas.{does_halts, outwards_halts}
use Rattle.code_hosts.proofs.RoundLemmas.{rounds_on, lacks_on}

abbrev reply : How → ℕ → Reply
reply how turns = record { how = how; turns = turns }

-- nothing waits behind the last end
pub last_is : (how : How) (r : Round) (around : List Waiting) → r ≡ round.Ends how → IsLast r around → around ≡ []
last_is how r around e x = subst (λ (r : Round). IsLast r around) e x

module _ {H W : Type 0} (g : Setting H) (moves : W → Question → Answer → W → Type 0) (due : Doing) (h : H) (o : W)
    (left : ℕ) where
  -- ---- a part by what it comes to

  module _ (spent : ℕ) (r : Round) (around : List Waiting) (h1 : H) (o1 : W)
      (x : Rounds g moves due h o left spent r around h1 o1) where
    pub by_round : (k : Round) → r ≡ k → RoundBy g due h left spent x.heard around h1 k
    by_round k e = subst (λ (k : Round). RoundBy g due h left spent x.heard around h1 k) e x.by

    pub rounds_as : (k : Round) → r ≡ k → Rounds g moves due h o left spent k around h1 o1
    rounds_as k e = subst (λ (k : Round). Rounds g moves due h o left spent k around h1 o1) e x

    -- what its end leads to
    module _ (how : How) (e : r ≡ round.Ends how) (m : ℕ) (o2 : W) where
      pub settled_on : (k : Round) (around2 : List Waiting) →
          Rounds g moves (ends_in around how) h1 o1 (left - spent) m k around2 h1 o2 →
          Rounds g moves due h o left (spent + m) k around2 h1 o2
      settled_on k around2 s =
          rounds_on g moves due (ends_in around how) h h1 o o1 left spent x.heard x.within x.chain
          (by_round (round.Ends how) e).0 m h1 o2 around2 k s

      pub settled_short : (k : Lack) → Lacks g moves (ends_in around how) h1 o1 (left - spent) m k h1 o2 →
          Lacks g moves due h o left (spent + m) k h1 o2
      settled_short k s =
          lacks_on g moves due (ends_in around how) h h1 o o1 left spent x.heard x.within x.chain
          (by_round (round.Ends how) e).0 m h1 o2 k s

    -- it is the last one
    ends_by : (how : How) → RoundBy g due h left spent x.heard [] h1 (round.Ends how) →
        RepliesBy g due h left spent x.heard h1 how
    ends_by (how.Returned v) l = l.0
    ends_by (how.Trapped t) l = l.0
    ends_by (how.Refused why) l = l.0
    ends_by how.Stuck l = l.0
    ends_by how.TurnLimit l = absurd l.1

    pub comes_so : (how : How) → r ≡ round.Ends how → around ≡ [] → Comes g moves due h o left (reply how spent) h1 o1
    comes_so how e none = record {
      within = x.within;
      heard = x.heard;
      chain = x.chain;
      replies =
          ends_by how (subst (λ (a : List Waiting). RoundBy g due h left spent x.heard a h1 (round.Ends how)) none
          (by_round (round.Ends how) e));
    }

    pub comes_late : r ≡ round.Limit → Comes g moves due h o left (reply how.TurnLimit spent) h1 o1
    comes_late e = record { within = x.within; heard = x.heard; chain = x.chain; replies = by_round round.Limit e }

  -- ---- the parts so far, and one more

  pub begins : (x : Open) (around : List Waiting) → around ≡ [] →
      Passes g moves (does (open_of x)) h o 0 (due_of x around) h o
  begins x around e =
      subst (λ (a : List Waiting). Passes g moves (does (open_of x)) h o 0 (due_of x a) h o) (sym e)
      (passes_none g moves (does (open_of x)) h o)

  module _ (made : ℕ) (now : Open) (around : List Waiting) (h1 : H) (o1 : W)
      (p : Passes g moves due h o made (due_of now around) h1 o1) where
    -- where no turn is left nothing of the outside is lacking
    pub halts_here : Halts g due h made p.heard h1
    halts_here = record {
      by = λ base is before rest.
          let z : made ≡ made + 0 = omega arith in
          ap (λ t. halted (due (at g base h t before (answers_in p.heard ++ rest)))) z
          ∙ ap halted (p.leads.by base is 0 before rest)
          ∙ outwards_halts (around_of around) (does (open_of now) (at g base h1 0 (before ++ p.heard) rest))
          (at g base h1 0 (before ++ p.heard) rest) refl
          (does_halts (open_of now) (at g base h1 0 (before ++ p.heard) rest) refl);
    }

    module _ (le : made ≤ left) (spent : ℕ) (h2 : H) (o2 : W) where
      pub part_on : (r : Round) (around2 : List Waiting) →
          Rounds g moves (due_of now around) h1 o1 (left - made) spent r around2 h2 o2 →
          Rounds g moves due h o left (made + spent) r around2 h2 o2
      part_on r around2 x =
          rounds_on g moves due (due_of now around) h h1 o o1 left made p.heard le p.chain p.leads spent h2 o2 around2 r x

      pub part_short : (k : Lack) → Lacks g moves (due_of now around) h1 o1 (left - made) spent k h2 o2 →
          Lacks g moves due h o left (made + spent) k h2 o2
      part_short k x =
          lacks_on g moves due (due_of now around) h h1 o o1 left made p.heard le p.chain p.leads spent h2 o2 k x

  pub passes_by : (spent : ℕ) (next : Open) (around : List Waiting) (h1 : H) (o1 : W) →
      Rounds g moves due h o left spent (round.Goes next) around h1 o1 →
      Passes g moves due h o spent (due_of next around) h1 o1
  passes_by spent next around h1 o1 x = record { heard = x.heard; chain = x.chain; leads = x.by }
