-- What an instruction came to, as code holds it. This project's own.
use Rattle.std.specs.Prelude.{◌≡◌, ℕ, Bool, true, false, List}
use Rattle.wasm_syntax.specs.declared.instr.Instr.{Instr}
use Rattle.wasm_values.specs.declared.refusals.Trap.{Trap}
use Rattle.wasm_objects.specs.declared.raw.RawVal.{RawVal}
use Rattle.spec_machine.specs.Machine.{Machine}
use Rattle.spec_execution.specs.Straight.{Effect, Goes, Traps, Sticks, act}
use Rattle.store_state.specs.Machine.{run_machine}
use Rattle.store_state.specs.Parts.{ProgramParts, HeldParts}
use Rattle.code_stack.specs.Values.{ValuesParts}
use Rattle.code_straight.specs.declared.acted.Acted.{Acted}
use Rattle.code_straight.specs.declared.acted.Acted.TheVariants as acted

-- with the store, the locals and the operands that it left
abbrev pub effect_of : Acted → Machine → List RawVal → List RawVal → Effect
effect_of acted.Goes m locals operands = Goes m locals operands
effect_of (acted.Traps t) m locals operands = Traps t
effect_of acted.Sticks m locals operands = Sticks

-- where it does not go on, what is held is as it was
abbrev pub Keeps : Acted → HeldParts → HeldParts → Type 0
Keeps acted.Goes old new = Unit {0}
Keeps _ old new = new ≡ old

-- done, or a trap
abbrev pub done_or : Trap → Bool → Acted
done_or t true = acted.Goes
done_or t false = acted.Traps t

-- an instruction of an instance's code came to this: in each store of these objects it does what it does
abbrev pub Acts : Instr → ProgramParts → ℕ → HeldParts → ValuesParts → Acted → HeldParts → ValuesParts → Type 0
Acts i program instance held values result held_after values_after =
    (base : Machine) → act instance (run_machine base program held) values.locals i values.operands
    ≡ effect_of result (run_machine base program held_after) values_after.locals values_after.operands

-- the same of one that touches no object: in each store
abbrev pub ActsAlone : Instr → ValuesParts → Acted → ValuesParts → Type 0
ActsAlone i values result values_after =
    (instance : ℕ) (m : Machine) → act instance m values.locals i values.operands
    ≡ effect_of result m values_after.locals values_after.operands
