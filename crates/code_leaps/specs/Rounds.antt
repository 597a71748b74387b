-- Instructions of the innermost code, and branches that stay in its block: those that are not taken, and those back to
-- the loop of which it is the code.
-- This project's own; WebAssembly core specification, "Execution, instructions": control instructions
use Rattle.std.specs.Prelude.{◌≡◌, ◌≢◌, ℕ, ℤ, ◌+◌, ◌-◌, ◌-ℤ◌, ◌<◌, List, [], ◌∷◌, Bool, true, false, not, ◌||◌, pos, nat_lt}
use Rattle.wasm_meter.specs.Fuel.{is_fuelled}
use Rattle.wasm_syntax.specs.declared.instr.Instr.{Instr}
use Rattle.wasm_objects.specs.declared.raw.RawVal.{RawVal}
use Rattle.spec_execution.specs.Checks.{check}
use Rattle.spec_execution.specs.Outcomes.{World, state, Branch}
use Rattle.store_state.specs.Parts.{ProgramParts, HeldParts}
use Rattle.code_straight.specs.Frames.{topmost}
use Rattle.code_straight.specs.declared.frames.Framed.TheVariants as framed
use Rattle.code_leaps.specs.Bursts.{Surrounding, standing, behind}
use Rattle.code_stack.specs.Layers.{owing, means}
use Rattle.code_leaps.specs.Leading.{Doing, Leads}
use Rattle.code_leaps.specs.Running.{ruled, charged, executing, IsQuiet}
use Rattle.code_leaps.specs.declared.burst.Burst.{Burst}
use Rattle.code_leaps.specs.declared.rounds.Hop.{Hop}
use Rattle.code_stack.specs.declared.rules.Rules.{Rules}

-- a branch to the innermost label leads to this code behind the check, and takes no operands along
abbrev pub LoopsTo : Surrounding → List Instr → Type 0
LoopsTo s code =
    (operands locals : List RawVal) (w : World) →
    owing (standing s code operands locals) (Branch 0 (state w locals operands))
    ≡ check w (means (standing s code [] locals))

-- the same of the code of a loop: where it is empty, there is none
abbrev pub Loops : Surrounding → List Instr → Type 0
Loops s again = again ≢ [] → LoopsTo s again

abbrev pub IsRound : List Instr → Hop → Type 0
IsRound again h = (again ≢ []) × (h.code.now ≡ again) × (h.height ≡ 0)

-- in this world checks let pass and ask nothing, where that is said
abbrev pub Lets : Bool → World → Type 0
Lets passes w = passes ≡ true → (go : Doing) → check w go ≡ go w

-- the next instruction, with its turn, leads from these operands to that code and those operands
pub record Hops (again : List Instr) (passes : Bool) (code : List Instr) (operands : List RawVal)
    (code_after : List Instr) (operands_after : List RawVal) : Type 0 where
  pub instr : Instr
  pub rest : List Instr
  pub code_is : code ≡ instr ∷ rest
  pub quiet : IsQuiet instr
  pub leads : (s : Surrounding) (locals : List RawVal) (w : World) → Loops s again → Lets passes w →
      executing (standing s rest operands locals) instr w ≡ means (standing s code_after operands_after locals) w

-- behind such a burst the run goes on there, in the same block: a turn is left for that, and checks pass where more than
-- `floor` turns are left behind it
pub record HopsBehind (ran : Burst) (again : List Instr) (floor : ℕ) (operands : List RawVal) (h : Hop) : Type 0 where
  pub top : ℕ
  pub goes : ran.framed ≡ framed.Goes top
  pub some : 0 < ran.left
  pub hops : Hops again (nat_lt floor (ran.left - 1)) ran.rest.now (topmost top operands) h.code.now
      (topmost h.height operands)

-- checks let pass and ask nothing once so much fuel is consumed
abbrev pub Passes : Rules → ℤ → ℕ → Type 0
Passes rules fuel owed = (rules.reads_epochs ≡ false) × ((not rules.consumes_fuel || is_fuelled (fuel -ℤ pos owed)) ≡ true)

-- that is so before as many further turns
abbrev pub IsFree : Rules → ℤ → ℕ → ℕ → Type 0
IsFree rules fuel owed turns = (spent : ℕ) → spent < turns → Passes rules fuel (owed + spent)

-- in each state of a function of this instance with such a loop around, with these operands and locals, under each of
-- the rules by which checks pass as long as more than `floor` turns are left: so many turns lead there, and no question
-- is asked
abbrev pub Rounds : ProgramParts → ℕ → List Instr → ℕ → HeldParts → List Instr → ℕ → List RawVal → List RawVal → ℕ →
    Burst → HeldParts → List RawVal → List RawVal → Type 0
Rounds program instance again floor held code height operands locals turns b held_after operands_after locals_after =
    (rules : Rules) (owed : ℕ) (s : Surrounding) → s.activation.instance ≡ instance → Loops s again →
    IsFree rules held.fuel owed (turns - floor) →
    Leads (ruled program rules) (means (standing s code (topmost height operands) locals))
    (charged rules.consumes_fuel held owed) (turns - b.left) []
    (behind s b.rest.now operands_after locals_after b.framed)
    (charged rules.consumes_fuel held_after (owed + (turns - b.left)))
