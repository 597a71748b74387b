-- What a step of the interpreter comes to, and what is entered by one.
-- WebAssembly core specification, "Execution, instructions": control instructions, blocks, function calls; checks and
-- functions of the host are this project's own
use Rattle.std.specs.Prelude.{◌≡◌, ℕ, List, [], ◌∷◌, ◌++◌, length, take, drop, reverse, slice_get, Option, Some, None}
use Rattle.wasm_types.specs.FunctionParts.{params, results}
use Rattle.wasm_types.specs.Signatures.{Signature}
use Rattle.wasm_syntax.specs.declared.declarations.Block.{Block as CodeBlock}
use Rattle.spec_execution.specs.Bodies.{stuck, on_block, exec}
use Rattle.spec_execution.specs.Checks.{check}
use Rattle.spec_execution.specs.Entering.{Frame, enter_host}
use Rattle.spec_execution.specs.Outcomes.{World, State, state, Outcome, Values, Over, End, Trapped, Refused, Stuck}
use Rattle.code_stack.specs.Values.{below, ValuesParts}
use Rattle.wasm_objects.specs.declared.raw.RawVal.{RawVal}
use Rattle.code_stack.specs.Layers.{Configuration, means, resumed}
use Rattle.code_stack.specs.declared.layers.Opening.{Opening}
use Rattle.code_stack.specs.declared.steps.Fault.{Fault}
use Rattle.code_stack.specs.declared.steps.Fault.TheVariants as fault
use Rattle.code_stack.specs.declared.steps.HostCall.{HostCall}
use Rattle.code_stack.specs.declared.steps.Step.{Step}
use Rattle.code_stack.specs.declared.steps.Step.TheVariants.{Goes, Checks, Fails, Done, Calls}

abbrev pub end_of : Fault → End
end_of (fault.Trapped t) = Trapped t
end_of (fault.Refused why) = Refused why
end_of fault.Stuck = Stuck

-- how many arguments a function of the host takes, and these, in order
abbrev pub taken_by : HostCall → ℕ
taken_by call = length (params call.ty.now)

abbrev pub arguments_at : Configuration → HostCall → List RawVal
arguments_at c call = reverse (take (taken_by call) c.values.operands)

-- a function of the host is entered that the innermost code called, and then all goes on
abbrev pub hosted : Configuration → HostCall → World → Outcome
hosted c call w =
    resumed c (taken_by call)
    (enter_host exec c.activation.depth call.ty.now call.body call.stored.now (arguments_at c call)
    (Some c.activation.instance) w)

-- an outcome that is due is that of the state as it now is, or that behind a check; or it is an early end; or it is the
-- end, with the topmost operands as results; or a function of the host is entered first
abbrev pub Comes : Outcome → Step → Configuration → World → Type 0
Comes o Goes new w = o ≡ means new w
Comes o Checks new w = o ≡ check w (means new)
Comes o (Fails f) new w = o ≡ Over (end_of f) w
Comes o (Calls call) new w = o ≡ hosted new call w
Comes o Done new w = o ≡ Values (state w [] (take new.activation.results new.values.operands))

-- a block of the function: its code, and how many parameters and results its type has
pub record Opens (fr : Frame) (b : ℕ) (o : Opening) : Type 0 where
  pub body : CodeBlock
  pub ty : Signature
  pub found_body : slice_get fr.function.blocks b ≡ Some body
  pub found_ty : slice_get fr.decl.types body.ty ≡ Some ty
  pub code : o.code.now ≡ body.instrs
  pub params : o.params ≡ length (params ty)
  pub results : o.results ≡ length (results ty)

-- or there is none
abbrev pub IsOpening : Frame → ℕ → Option Opening → Type 0
IsOpening fr b None = (s : State) (go : CodeBlock → Signature → Outcome) → on_block fr b s go ≡ stuck s
IsOpening fr b (Some o) = Opens fr b o

-- ---- calls

-- the topmost operands have become the first locals of a function, with these behind them
pub record HasCalled (count : ℕ) (begun : List RawVal) (old new : ValuesParts) : Type 0 where
  pub operands : new.operands ≡ []
  pub locals : new.locals ≡ reverse (take count old.operands) ++ begun
  pub below : new.below ≡ below (drop count old.operands ∷ old.below.operands) (old.locals ∷ old.below.locals)
