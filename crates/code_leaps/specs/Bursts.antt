-- Instructions that lead to no other code, one after another, over the operands and the locals of the function at work.
-- This project's own.
use Rattle.std.specs.Prelude.{◌≡◌, ℕ, ◌+◌, ◌-◌, List, [], Bool, true, false}
use Rattle.wasm_syntax.specs.declared.instr.Instr.{Instr}
use Rattle.wasm_syntax.specs.declared.instr.Instr.TheVariants as i
use Rattle.wasm_objects.specs.declared.raw.RawVal.{RawVal}
use Rattle.spec_execution.specs.Outcomes.{Over, Trapped, Stuck}
use Rattle.store_state.specs.Parts.{ProgramParts, HeldParts}
use Rattle.code_stack.specs.Values.{Below, values_parts}
use Rattle.code_straight.specs.Frames.{topmost}
use Rattle.code_straight.specs.declared.frames.Framed.{Framed}
use Rattle.code_straight.specs.declared.frames.Framed.TheVariants as framed
use Rattle.code_stack.specs.Layers.{Configuration, means}
use Rattle.code_leaps.specs.Leading.{Doing, Leads}
use Rattle.code_leaps.specs.Running.{ruled, charged}
use Rattle.code_leaps.specs.declared.burst.Burst.{Burst}
use Rattle.code_stack.specs.declared.layers.Activation.{Activation}
use Rattle.code_stack.specs.declared.layers.Layer.{Layer}
use Rattle.code_stack.specs.declared.rules.Rules.{Rules}

-- the instructions that the loop does where they stand
abbrev pub is_frequent : Instr → Bool
is_frequent (i.LocalGet _) = true
is_frequent (i.LocalSet _) = true
is_frequent (i.LocalTee _) = true
is_frequent (i.GlobalGet _) = true
is_frequent (i.GlobalSet _) = true
is_frequent (i.Const32 _) = true
is_frequent (i.Const64 _) = true
is_frequent (i.Unary _) = true
is_frequent (i.Binary _) = true
is_frequent (i.Load _ _ _) = true
is_frequent (i.Store _ _ _) = true
is_frequent i.Drop = true
is_frequent i.Select = true
is_frequent _ = false

-- what stands around the operands and the locals of a state
pub record Surrounding : Type 0 where
  pub activation : Activation
  pub layers : List Layer
  pub below : Below

abbrev pub standing : Surrounding → List Instr → List RawVal → List RawVal → Configuration
standing s code operands locals = record {
  activation = s.activation;
  code = code;
  layers = s.layers;
  values = values_parts operands locals s.below 0;
}

-- what is done behind instructions that came to this
abbrev pub behind : Surrounding → List Instr → List RawVal → List RawVal → Framed → Doing
behind s code operands locals (framed.Goes height) = means (standing s code (topmost height operands) locals)
behind s code operands locals (framed.Traps t) = λ w. Over (Trapped t) w
behind s code operands locals framed.Sticks = λ w. Over Stuck w

-- in each state of a function of this instance, with these operands and locals, under each of the rules: so many turns
-- lead there, and no question is asked
abbrev pub Bursts : ProgramParts → ℕ → HeldParts → List Instr → ℕ → List RawVal → List RawVal → ℕ → Burst → HeldParts →
    List RawVal → List RawVal → Type 0
Bursts program instance held code height operands locals turns b held_after operands_after locals_after =
    (rules : Rules) (owed : ℕ) (s : Surrounding) → s.activation.instance ≡ instance →
    Leads (ruled program rules) (means (standing s code (topmost height operands) locals))
    (charged rules.consumes_fuel held owed) (turns - b.left) []
    (behind s b.rest.now operands_after locals_after b.framed)
    (charged rules.consumes_fuel held_after (owed + (turns - b.left)))
