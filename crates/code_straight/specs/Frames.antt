-- Instructions on a frame's slices: the locals, and the operands of the innermost label, the topmost last, of which so
-- many count. This project's own.
use Rattle.std.specs.Prelude.{◌≡◌, ◌≤◌, ℕ, List, length, take, reverse}
use Rattle.wasm_syntax.specs.declared.instr.Instr.{Instr}
use Rattle.wasm_objects.specs.declared.raw.RawVal.{RawVal}
use Rattle.spec_machine.specs.Machine.{Machine}
use Rattle.spec_execution.specs.Straight.{Effect, Goes, Traps, Sticks, act}
use Rattle.store_state.specs.Machine.{run_machine}
use Rattle.store_state.specs.Parts.{ProgramParts, HeldParts}
use Rattle.code_straight.specs.declared.frames.Framed.{Framed}
use Rattle.code_straight.specs.declared.frames.Framed.TheVariants as framed

-- the operands that count, the topmost first
abbrev pub topmost : ℕ → List RawVal → List RawVal
topmost height operands = reverse (take height operands)

-- what an instruction came to, with the store, the locals and the operands that it left
abbrev pub effect_in : Framed → Machine → List RawVal → List RawVal → Effect
effect_in (framed.Goes height) m locals operands = Goes m locals (topmost height operands)
effect_in (framed.Traps t) m locals operands = Traps t
effect_in framed.Sticks m locals operands = Sticks

-- an instruction of an instance's code came to this: in each store of these objects it does what it does
abbrev pub ActsIn : Instr → ProgramParts → ℕ → HeldParts → ℕ → List RawVal → List RawVal → Framed → HeldParts →
    List RawVal → List RawVal → Type 0
ActsIn i program instance held height operands locals result held_after operands_after locals_after =
    (base : Machine) → act instance (run_machine base program held) locals i (topmost height operands)
    ≡ effect_in result (run_machine base program held_after) locals_after operands_after

-- the same of one that touches no object: in each store
abbrev pub ActsInAny : Instr → ℕ → List RawVal → List RawVal → Framed → List RawVal → List RawVal → Type 0
ActsInAny i height operands locals result operands_after locals_after =
    (instance : ℕ) (m : Machine) → act instance m locals i (topmost height operands)
    ≡ effect_in result m locals_after operands_after

-- the new height is within the slice
abbrev pub IsWithin : Framed → List RawVal → Type 0
IsWithin (framed.Goes height) operands = height ≤ length operands
IsWithin _ operands = Unit {0}

-- where it does not go on, what is held is as it was
abbrev pub KeepsIn : Framed → HeldParts → HeldParts → Type 0
KeepsIn (framed.Goes height) old new = Unit {0}
KeepsIn _ old new = new ≡ old
