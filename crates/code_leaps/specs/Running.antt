-- The stores of a run, and what its instructions come to in each of them. This project's own; WebAssembly core
-- specification, "Execution, instructions".
use Rattle.std.specs.Prelude.{◌≡◌, ℕ, Bool, true, if◌then◌else◌, pos, ◌-ℤ◌, List}
use Rattle.wasm_syntax.specs.declared.instr.Instr.{Instr}
use Rattle.wasm_syntax.specs.declared.instr.Instr.TheVariants as i
use Rattle.spec_machine.specs.Machine.{Machine}
use Rattle.spec_execution.specs.Askings.{Answer, Asking}
use Rattle.spec_execution.specs.Bodies.{one, exec}
use Rattle.store_state.specs.Machine.{run_machine}
use Rattle.store_state.specs.Parts.{ProgramParts, HeldParts}
use Rattle.code_stack.specs.Layers.{Configuration, frame_at, state_at, owing}
use Rattle.code_leaps.specs.Leading.{Doing, Setting, at}
use Rattle.code_stack.specs.Steps.{Comes}
use Rattle.code_stack.specs.declared.rules.Rules.{Rules}
use Rattle.code_stack.specs.declared.steps.Step.{Step}

-- what holds of the rest of the store by the rules of a run; a hook may be set or none
pub record IsRuled (rules : Rules) (base : Machine) : Type 0 where
  pub frames_are : base.engine.frames ≡ rules.frames
  pub fuel_is : base.engine.consumes_fuel ≡ rules.consumes_fuel
  pub epochs_are : base.engine.reads_epochs ≡ rules.reads_epochs
  pub limited_is : base.is_limited ≡ rules.limited
  pub behaving_is : rules.reads_epochs ≡ true → base.is_behaving ≡ rules.behaving

abbrev pub ruled : ProgramParts → Rules → Setting HeldParts
ruled program rules = record { is_base = IsRuled rules; put = λ base held. run_machine base program held }

-- what is held once so much fuel more is taken, where fuel is consumed
abbrev pub charged : Bool → HeldParts → ℕ → HeldParts
charged consumes held owed = record held { fuel = if consumes then held.fuel -ℤ pos owed else held.fuel }

-- an instruction that was passed, and of which the turn was taken
abbrev pub executing : Configuration → Instr → Doing
executing c j w = owing c (one exec (frame_at c) j c.code (state_at c w))

-- an instruction that asks nothing: all but those of growth
abbrev pub AsksNothing : Instr → Type 0
AsksNothing (i.MemoryGrow k) = ⊥
AsksNothing (i.TableGrow k) = ⊥
AsksNothing _ = Unit {0}

-- an instruction whose turn comes first, and takes one unit: the question of a growth and the test of a bulk form do
abbrev pub IsQuiet : Instr → Type 0
IsQuiet (i.MemoryGrow k) = ⊥
IsQuiet (i.TableGrow k) = ⊥
IsQuiet (i.MemoryFill k) = ⊥
IsQuiet (i.MemoryCopy dst src) = ⊥
IsQuiet (i.MemoryInit memory segment) = ⊥
IsQuiet (i.TableFill k) = ⊥
IsQuiet (i.TableCopy dst src) = ⊥
IsQuiet (i.TableInit table segment) = ⊥
IsQuiet _ = Unit {0}

-- a step in each of the stores: what it comes to, and what is held then
pub record Steps {H : Type 0} (g : Setting H) (due : Doing) (h : H) (step : Step) (new : Configuration) (h' : H)
    : Type 0 where
  pub by : (base : Machine) → g.is_base base → (turns : ℕ) (before : List Asking) (answers : List Answer) →
      Comes (due (at g base h turns before answers)) step new (at g base h' turns before answers)

-- an instruction that leads to no other code, and asks nothing
abbrev pub IsStraight : Instr → Type 0
IsStraight i.Unreachable = ⊥
IsStraight (i.Block b) = ⊥
IsStraight (i.Loop b) = ⊥
IsStraight (i.If a b) = ⊥
IsStraight (i.Br l) = ⊥
IsStraight (i.BrIf l) = ⊥
IsStraight (i.BrTable k) = ⊥
IsStraight i.Return = ⊥
IsStraight (i.Call k) = ⊥
IsStraight (i.CallIndirect ty k) = ⊥
IsStraight (i.MemoryGrow k) = ⊥
IsStraight (i.TableGrow k) = ⊥
IsStraight _ = Unit {0}
