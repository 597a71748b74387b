-- A thread as its steps see it: its state, what a step of it comes to, and a block that it entered.
-- WebAssembly core specification, "Execution, instructions": control instructions, blocks
use Rattle.std.specs.Prelude.{◌≡◌, ℕ, ◌∷◌, Option}
use Rattle.code_stack.specs.Values.{HasOpened}
use Rattle.code_stack.specs.Layers.{Configuration}
use Rattle.code_stack.specs.declared.layers.Label.{Label}
use Rattle.code_stack.specs.declared.layers.Layer.TheVariants.{Block}
use Rattle.code_run.specs.declared.thread.Thread.{Thread}
use Rattle.code_stack.specs.declared.layers.Opening.{Opening}
use Rattle.code_run.specs.declared.steps.Signal.{Signal}
use Rattle.code_run.specs.declared.steps.Signal.TheVariants as signal
use Rattle.code_stack.specs.declared.steps.Step.{Step}
use Rattle.code_stack.specs.declared.steps.Step.TheVariants.{Goes, Checks, Fails, Done}

-- the whole step, of which the thread says how a run ends or pauses
abbrev pub came : Signal → Thread → Step
came signal.Goes t = Goes
came signal.Checks t = Checks
came signal.Ends t = t.step

-- a run that is over
abbrev pub IsOver : Step → Type 0
IsOver (Fails f) = Unit {0}
IsOver Done = Unit {0}
IsOver _ = ⊥

abbrev pub EndsOver : Signal → Thread → Type 0
EndsOver signal.Ends t = IsOver t.step
EndsOver _ t = Unit {0}

-- a state as code holds it
abbrev pub seen : Thread → Configuration
seen t = record { activation = t.activation; code = t.code.now; layers = t.layers; values = t.values }

-- a block was entered
pub record HasEntered (o : Opening) (arity : ℕ) (again : Option ℕ) (old new : Thread) : Type 0 where
  pub values : HasOpened o.params old.values new.values
  pub label : Label
  pub rest : label.rest.now ≡ old.code.now
  pub arity_is : label.arity ≡ arity
  pub again_is : label.again ≡ again
  pub layers : new.layers ≡ Block label ∷ old.layers
  pub code : new.code.now ≡ o.code.now
  pub activation : new.activation ≡ old.activation
