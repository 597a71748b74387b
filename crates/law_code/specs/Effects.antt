-- What an instruction that leads to no other code comes to, where it is well typed.
-- WebAssembly core specification, "Soundness"
use Rattle.std.specs.Prelude.{◌≤◌, List}
use Rattle.wasm_types.specs.declared.value_types.ValType.{ValType}
use Rattle.wasm_syntax.specs.Typing.{Typed, Reached, Unreached, IllTyped}
use Rattle.wasm_objects.specs.declared.raw.RawVal.{RawVal}
use Rattle.spec_machine.specs.Machine.{Machine, debt}
use Rattle.spec_machine.specs.WellFormed.{IsWellFormed}
use Rattle.law_store.specs.Later.{Extends}
use Rattle.spec_execution.specs.Straight.{Effect, Goes, Traps, Sticks}
use Rattle.law_code.specs.Typed.{HaveTypes}

-- a well-formed store, later than the one before, that owes no more, with locals and operands of these types
pub record IsLeft (m : Machine) (locals operands : List ValType) (after : Machine)
    (new_locals new_operands : List RawVal) : Type 0 where
  pub well : IsWellFormed after
  pub later : Extends m after
  pub owed : debt after.fuel ≤ debt m.fuel
  pub locals_are : HaveTypes after locals new_locals
  pub operands_are : HaveTypes after operands new_operands

-- an effect is as the typing of the instruction says
abbrev pub IsEffect : Machine → List ValType → Typed → Effect → Type 0
IsEffect m locals IllTyped e = Unit {0}
IsEffect m locals Unreached (Traps t) = Unit {0}
IsEffect m locals Unreached _ = ⊥
IsEffect m locals (Reached ts) (Goes after new_locals new_operands) = IsLeft m locals ts after new_locals new_operands
IsEffect m locals (Reached ts) (Traps t) = Unit {0}
IsEffect m locals (Reached ts) Sticks = ⊥
