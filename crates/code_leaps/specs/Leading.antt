-- How one part of a run leads to the next, with the questions and the answers on its way. This project's own.
use Rattle.std.specs.Prelude.{◌≡◌, ℕ, ◌+◌, List, ◌++◌, Option, Some, None}
use Rattle.spec_machine.specs.Machine.{Machine}
use Rattle.spec_execution.specs.Askings.{Answer, Asking, answers_in}
use Rattle.spec_execution.specs.Outcomes.{World, world, Outcome, Values, Branch, Return, Over, Stopped, Waiting, Exhausted}

-- what is done from a world
abbrev pub Doing : Type 0
Doing = World → Outcome

-- what a run holds is a part of the store: which machines the rest of the store may be of, and the whole store
pub record Setting (H : Type 0) : Type 1 where
  pub is_base : Machine → Type 0
  pub put : Machine → H → Machine

-- where an outcome ended
abbrev pub world_of : Outcome → World
world_of (Values s) = s.world
world_of (Branch l s) = s.world
world_of (Return s) = s.world
world_of (Over e w) = w

-- the same, where nothing of the outside was lacking: no answer, and no memory of a step of the host
abbrev pub halted : Outcome → Option World
halted (Over (Waiting q) w) = None
halted (Over Exhausted w) = None
halted o = Some (world_of o)

module _ {H : Type 0} (g : Setting H) where
  abbrev pub at : Machine → H → ℕ → List Asking → List Answer → World
  at base h turns before answers = world (g.put base h) turns before answers

  -- so many turns, with these questions and answers, lead from one state to another: whatever the rest of the store is,
  -- whatever was heard before, and however many turns and answers are left
  pub record Leads (a : Doing) (h : H) (spent : ℕ) (heard : List Asking) (b : Doing) (h' : H) : Type 0 where
    pub by : (base : Machine) → g.is_base base → (extra : ℕ) (before : List Asking) (rest : List Answer) →
        a (at base h (spent + extra) before (answers_in heard ++ rest)) ≡ b (at base h' extra (before ++ heard) rest)

  -- the same, where another turn is due and none is left
  pub record Stops (a : Doing) (h : H) (spent : ℕ) (heard : List Asking) (h' : H) : Type 0 where
    pub by : (base : Machine) → g.is_base base → (before : List Asking) (rest : List Answer) →
        a (at base h spent before (answers_in heard ++ rest)) ≡ Over Stopped (at base h' 0 (before ++ heard) rest)

  -- the same, however it ends but for want of something outside
  pub record Halts (a : Doing) (h : H) (spent : ℕ) (heard : List Asking) (h' : H) : Type 0 where
    pub by : (base : Machine) → g.is_base base → (before : List Asking) (rest : List Answer) →
        halted (a (at base h spent before (answers_in heard ++ rest))) ≡ Some (at base h' 0 (before ++ heard) rest)
