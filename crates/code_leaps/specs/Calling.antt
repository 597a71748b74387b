-- Functions of a store, of which the functions and the instances are those of a program.
-- WebAssembly core specification, "Execution, instructions": function calls
use Rattle.std.specs.Prelude.{◌≡◌, ℕ, List, map, slice_get, Option, Some, None, option_map}
use Rattle.wasm_types.specs.declared.value_types.ValType.{ValType}
use Rattle.wasm_values.specs.Values.{default_of}
use Rattle.wasm_objects.specs.declared.raw.RawVal.{RawVal}
use Rattle.spec_machine.specs.Machine.{Machine, InstanceParts}
use Rattle.spec_execution.specs.Entering.{begun}
use Rattle.store_state.specs.Machine.{callee_type}
use Rattle.store_state.specs.Parts.{Names, names, ProgramParts}
use Rattle.code_leaps.specs.declared.calls.Callee.{Callee}

-- what an instance names
abbrev pub names_of : InstanceParts → Names
names_of i = names i.decl i.functions i.tables i.memories i.globals i.tags

-- the functions and the instances of a store are these, and so many frames may be open
pub record IsOf (program : ProgramParts) (frames : ℕ) (m : Machine) : Type 0 where
  pub functions : m.functions ≡ program.functions
  pub instances : (k : ℕ) → option_map names_of (slice_get m.instances k) ≡ slice_get program.instances k
  pub frames_are : m.engine.frames ≡ frames

abbrev pub begun_values : List ValType → List RawVal
begun_values types = map (λ ty. begun (default_of ty)) types

-- a function of an instance, or there is none
pub record IsThere (program : ProgramParts) (instance number : ℕ) (c : Callee) : Type 0 where
  pub own : Names
  pub found : slice_get program.instances instance ≡ Some own
  pub decl : c.«module».now ≡ own.decl
  pub function : slice_get own.decl.functions number ≡ Some c.function.now
  pub ty : slice_get own.decl.types c.function.now.ty ≡ Some c.ty.now

abbrev pub IsCallee : ProgramParts → ℕ → ℕ → Option Callee → Type 0
IsCallee program instance number None = callee_type program instance number ≡ None
IsCallee program instance number (Some c) = IsThere program instance number c
