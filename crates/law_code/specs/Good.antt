-- What holds along the run of well-typed code.
-- WebAssembly core specification, "Soundness": configuration validity, and the theorems of preservation and progress
use Rattle.std.specs.Prelude.{◌≡◌, ℕ, ◌+◌, ◌≤◌, true, List, [], slice_get, Some}
use Rattle.wasm_types.specs.declared.value_types.ValType.{ValType}
use Rattle.wasm_syntax.specs.Contexts.{Context, context}
use Rattle.wasm_syntax.specs.declared.declarations.ModuleDecl.{ModuleDecl}
use Rattle.wasm_syntax.specs.Typing.{Typed, Reached, Unreached, IllTyped, onto}
use Rattle.spec_machine.specs.Machine.{Machine, InstanceParts, debt, most_debt}
use Rattle.spec_machine.specs.WellFormed.{IsWellFormed}
use Rattle.law_store.specs.Later.{Extends}
use Rattle.spec_execution.specs.Entering.{Frame}
use Rattle.spec_execution.specs.Outcomes.{World, State, End, Stuck, Outcome, Values, Branch, Return, Over}
use Rattle.law_code.specs.Answers.{AreTyped}
use Rattle.law_code.specs.Typed.{HaveTypes}

-- the instance of a frame is there, and of the frame's module
pub record IsHome (m : Machine) (fr : Frame) : Type 0 where
  pub parts : InstanceParts
  pub found : slice_get m.instances fr.instance ≡ Some parts
  pub same : parts.decl ≡ fr.decl

-- what the code of a frame may name
abbrev pub context_of : Frame → Context
context_of fr = context fr.decl fr.function

-- ---- what is owed

-- each turn that is left may be charged one unit of fuel, where the engine consumes fuel. This holds once a check found
-- fuel in a command, whose turns are at most 10^9: nothing was owed then, and each charge takes a turn. So it does behind
-- a bulk form, before which fuel was found, too: of what was there the form takes at most 2^32
pub record IsPaid (w : World) : Type 0 where
  pub owed : w.machine.engine.consumes_fuel ≡ true → debt w.machine.fuel + w.turns ≤ most_debt

-- the code of a frame may run
pub record CodeMayRun (w : World) (fr : Frame) : Type 0 where
  pub home : IsHome w.machine fr
  pub paid : IsPaid w

-- ---- worlds along a run

-- a later world: its store is later, no turn came back, and where each turn could be charged each one still can
pub record IsLaterWorld (u w : World) : Type 0 where
  pub store : Extends u.machine w.machine
  pub fewer : w.turns ≤ u.turns
  pub paid : IsPaid u → IsPaid w

-- the store is well formed, and the world later than `base`; there are at most as many turns as an engine gives to a
-- command, and the types in the answers that are left are types
pub record IsGoodWorld (base w : World) : Type 0 where
  pub well : IsWellFormed w.machine
  pub later : IsLaterWorld base w
  pub turns : w.turns ≤ 1000000000
  pub typed : AreTyped w.answers

-- and the locals and the operands have these types
pub record IsGood (base : World) (locals operands : List ValType) (s : State) : Type 0 where
  pub world : IsGoodWorld base s.world
  pub locals_are : HaveTypes s.world.machine locals s.locals
  pub operands_are : HaveTypes s.world.machine operands s.operands

-- where a run ended early: it is never stuck
abbrev pub IsGoodEnd : World → End → World → Type 0
IsGoodEnd base Stuck w = ⊥
IsGoodEnd base _ w = IsGoodWorld base w

-- the types of a branch's label, or the results of a function, are on top
pub record IsOnTop (base : World) (locals top : List ValType) (s : State) : Type 0 where
  pub rest : List ValType
  pub good : IsGood base locals (onto top rest) s

pub record IsBranch (base : World) (locals : List ValType) (labels : List (List ValType)) (l : ℕ)
    (s : State) : Type 0 where
  pub label : List ValType
  pub found : slice_get labels l ≡ Some label
  pub good : IsOnTop base locals label s

-- a way to end, where `Ends` says what holds at the end of the code
abbrev pub IsGoodOutcome : World → List ValType → List ValType → List (List ValType) → (State → Type 0) →
    Outcome → Type 0
IsGoodOutcome base locals results labels Ends (Values s) = Ends s
IsGoodOutcome base locals results labels Ends (Branch l s) = IsBranch base locals labels l s
IsGoodOutcome base locals results labels Ends (Return s) = IsOnTop base locals results s
IsGoodOutcome base locals results labels Ends (Over e w) = IsGoodEnd base e w

-- an outcome is as the typing of the code says
abbrev pub IsAsTyped : World → List ValType → List ValType → List (List ValType) → Typed → Outcome → Type 0
IsAsTyped base locals results labels IllTyped o = Unit {0}
IsAsTyped base locals results labels Unreached o = IsGoodOutcome base locals results labels (λ s. ⊥) o
IsAsTyped base locals results labels (Reached ts) o =
    IsGoodOutcome base locals results labels (IsGood base locals ts) o

-- a call ended with values of these types, the last on top, or early
abbrev pub IsReturned : World → List ValType → Outcome → Type 0
IsReturned base results (Values s) = IsGood base [] (onto results []) s
IsReturned base results (Over e w) = IsGoodEnd base e w
IsReturned base results _ = ⊥

-- ---- instantiation

-- an instance of a module is there, by its number
pub record IsInstanceOf (m : Machine) (n : ℕ) (d : ModuleDecl) : Type 0 where
  pub parts : InstanceParts
  pub found : slice_get m.instances n ≡ Some parts
  pub same : parts.decl ≡ d

-- an instantiation ended with no operands, and the instance of the module is there under this number; or early
abbrev pub IsInstantiated : World → ℕ → ModuleDecl → Outcome → Type 0
IsInstantiated base n d (Values s) = IsGood base [] [] s × IsInstanceOf s.world.machine n d
IsInstantiated base n d (Over e w) = IsGoodEnd base e w
IsInstantiated base n d _ = ⊥
