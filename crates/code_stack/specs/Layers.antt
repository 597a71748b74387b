-- What the state of the interpreter means: the innermost code is run, and its outcome is taken outwards, through the
-- blocks and the calls around it.
-- WebAssembly core specification, "Execution, runtime structure": configurations, stack, labels, activations and frames
use Rattle.std.specs.Prelude.{◌≡◌, ℕ, zero, suc, ◌+◌, List, [], ◌∷◌, drop, Option, Some, None}
use Rattle.wasm_syntax.specs.declared.instr.Instr.{Instr}
use Rattle.wasm_objects.specs.declared.raw.RawVal.{RawVal}
use Rattle.spec_execution.specs.Bodies.{Exit, exit, after, back, exec}
use Rattle.spec_execution.specs.Entering.{Frame, Code, Run, Again, leave}
use Rattle.spec_execution.specs.Outcomes.{World, State, state, Outcome, Values, Branch, Return, Over, Stuck}
use Rattle.code_stack.specs.Values.{ValuesParts}
use Rattle.code_stack.specs.declared.layers.Activation.{Activation}
use Rattle.code_stack.specs.declared.layers.Label.{Label}
use Rattle.code_stack.specs.declared.layers.Layer.{Layer}
use Rattle.code_stack.specs.declared.layers.Layer.TheVariants.{Block, Call}

abbrev pub frame_of : Activation → Frame
frame_of a = record { instance = a.instance; decl = a.«module».now; function = a.function.now; depth = a.depth }

-- where a branch to a label leads
abbrev pub target_of : Frame → List Instr → Option ℕ → Code
target_of fr is None = Run fr is
target_of fr is (Some b) = Again fr b is

abbrev pub exit_of : Frame → Label → Exit
exit_of fr p = exit p.arity (target_of fr p.rest.now p.again)

-- where values are missing, which never comes
abbrev pub lost : Outcome → Outcome
lost (Values s) = Over Stuck s.world
lost (Branch l s) = Over Stuck s.world
lost (Return s) = Over Stuck s.world
lost (Over e w) = Over e w

-- an outcome of the innermost code goes outwards; to each block and each call belong the operands that lie below, and
-- to a call the locals of the function that called, also to the outermost one
abbrev pub outwards : Activation → List Layer → List (List RawVal) → List (List RawVal) → Outcome → Outcome
outwards a [] [] locals o = lost o
outwards a [] (below ∷ operands) [] o = lost o
outwards a [] (below ∷ operands) (own ∷ locals) o = leave a.results o
outwards a (Block p ∷ more) [] locals o = lost o
outwards a (Block p ∷ more) (below ∷ operands) locals o =
    outwards a more operands locals (after exec (Run (frame_of a) p.rest.now) (exit_of (frame_of a) p) below o)
outwards a (Call c ∷ more) [] locals o = lost o
outwards a (Call c ∷ more) (below ∷ operands) [] o = lost o
outwards a (Call c ∷ more) (below ∷ operands) (own ∷ locals) o =
    outwards c.activation more operands locals
    (back exec (Run (frame_of c.activation) c.rest.now) own below (leave a.results o))

-- no block is open in the function at work
abbrev pub IsOutermost : List Layer → Type 0
IsOutermost (Block p ∷ more) = ⊥
IsOutermost _ = Unit {0}

-- the innermost block of the function at work
abbrev pub IsInnermost : Option Label → List Layer → Type 0
IsInnermost None ls = IsOutermost ls
IsInnermost (Some p) ls = (more : List Layer) × (ls ≡ Block p ∷ more)

-- an outcome that goes past so many blocks, of which the values are dropped
abbrev pub past : Activation → ℕ → List Layer → List (List RawVal) → List (List RawVal) → Outcome → Outcome
past a zero more operands locals o = outwards a more operands locals o
past a (suc n) more [] locals o = lost o
past a (suc n) more (below ∷ operands) locals o = past a n more operands locals o

-- so many blocks were dropped: a branch to a label further out, and a return, goes past them
pub record HasDropped (n : ℕ) (old new : List Layer) : Type 0 where
  pub branch : (a : Activation) (operands locals : List (List RawVal)) (l : ℕ) (s : State) →
      outwards a old operands locals (Branch (n + l) s) ≡ past a n new operands locals (Branch l s)
  pub return : (a : Activation) (operands locals : List (List RawVal)) (s : State) →
      outwards a old operands locals (Return s) ≡ past a n new operands locals (Return s)

-- a state: the function at work, the code that is left of the innermost block, what stands around it, and the values
pub record Configuration : Type 0 where
  pub activation : Activation
  pub code : List Instr
  pub layers : List Layer
  pub values : ValuesParts

abbrev pub frame_at : Configuration → Frame
frame_at c = frame_of c.activation

abbrev pub state_at : Configuration → World → State
state_at c w = state w c.values.locals c.values.operands

-- what the innermost code owes, and what all does from here
abbrev pub owing : Configuration → Outcome → Outcome
owing c o = outwards c.activation c.layers c.values.below.operands c.values.below.locals o

abbrev pub means : Configuration → World → Outcome
means c w = owing c (exec (Run (frame_at c) c.code) (state_at c w))

-- what comes of a function that the innermost code called on so many of its operands, by that function's outcome: the
-- code goes on with the results, and an early end goes outwards
abbrev pub resumed : Configuration → ℕ → Outcome → Outcome
resumed c count o = owing c (back exec (Run (frame_at c) c.code) c.values.locals (drop count c.values.operands) o)
