-- What the parts of code do that lead to other code, whatever the turns, the questions and the store are.
-- WebAssembly core specification, "Execution, instructions": control instructions, blocks
use Rattle.std.specs.Prelude.{ℕ, ◌∷◌}
use Rattle.spec_execution.specs.Bodies.{block, iterate, at_once, exec}
use Rattle.spec_execution.specs.Entering.{Run}
use Rattle.spec_execution.specs.Outcomes.{World, Branch, Return}
use Rattle.code_stack.specs.Layers.{frame_at, state_at, past, owing, means}
use Rattle.code_stack.specs.Steps.{Comes}
use Rattle.code_run.specs.Steps.{seen}
use Rattle.code_stack.specs.declared.layers.Label.{Label}
use Rattle.code_stack.specs.declared.layers.Layer.TheVariants as layer
use Rattle.code_stack.specs.declared.steps.Step.{Step}
use Rattle.code_run.specs.declared.thread.Thread.{Thread}

-- a block of this number
abbrev pub Enters : ℕ → Thread → Step → Thread → Type 0
Enters b old step new =
    (w : World) → Comes (owing (seen old) (block exec (frame_at (seen old)) b old.code.now (state_at (seen old) w)))
    step (seen new) w

-- a loop of this number, and the same once more
abbrev pub Repeats : ℕ → Thread → Step → Thread → Type 0
Repeats b old step new =
    (w : World) →
    Comes (owing (seen old) (iterate exec (frame_at (seen old)) b old.code.now (state_at (seen old) w)
    (λ body. exec (Run (frame_at (seen old)) body.instrs)))) step (seen new) w

abbrev pub Again : ℕ → Thread → Step → Thread → Type 0
Again b old step new =
    (w : World) →
    Comes (owing (seen old) (iterate exec (frame_at (seen old)) b old.code.now (state_at (seen old) w)
    (λ body. at_once exec (frame_at (seen old)) body.instrs))) step (seen new) w

-- a branch to the label behind these, past so many blocks
abbrev pub BranchesTo : Label → ℕ → Thread → Step → Thread → Type 0
BranchesTo p passed old step new =
    (w : World) →
    Comes (past old.activation passed (layer.Block p ∷ old.layers) old.values.below.operands old.values.below.locals
    (Branch 0 (state_at (seen old) w))) step (seen new) w

-- a return, past so many blocks
abbrev pub Leaves : ℕ → Thread → Step → Thread → Type 0
Leaves passed old step new =
    (w : World) →
    Comes (past old.activation passed old.layers old.values.below.operands old.values.below.locals
    (Return (state_at (seen old) w))) step (seen new) w

-- the end of the innermost code
abbrev pub Ends : Thread → Step → Thread → Type 0
Ends old step new = (w : World) → Comes (means (seen old) w) step (seen new) w

-- a branch to the label so many outwards, and a return
abbrev pub Branches : ℕ → Thread → Step → Thread → Type 0
Branches l old step new =
    (w : World) → Comes (owing (seen old) (Branch l (state_at (seen old) w))) step (seen new) w

abbrev pub Returns : Thread → Step → Thread → Type 0
Returns old step new = (w : World) → Comes (owing (seen old) (Return (state_at (seen old) w))) step (seen new) w
