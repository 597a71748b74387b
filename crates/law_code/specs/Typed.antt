-- Values, locals and operands of types.
-- WebAssembly core specification, "Soundness": value and frame validity
use Rattle.std.specs.Prelude.{◌≡◌, true, List, [], ◌∷◌}
use Rattle.wasm_types.specs.declared.value_types.ValType.{ValType}
use Rattle.wasm_objects.specs.declared.raw.RawVal.{RawVal}
use Rattle.spec_machine.specs.Machine.{Machine}
use Rattle.spec_machine.specs.Values.{raw_val_fits}
use Rattle.spec_machine.specs.WellFormed.{is_raw_val}

-- a value is there, and fits the type
pub record HasType (m : Machine) (ty : ValType) (v : RawVal) : Type 0 where
  pub there : is_raw_val m v ≡ true
  pub fits : raw_val_fits m v ty ≡ true

-- as many values as types, each of its type
abbrev pub HaveTypes : Machine → List ValType → List RawVal → Type 0
HaveTypes m [] [] = Unit {0}
HaveTypes m (ty ∷ tys) (v ∷ vs) = HasType m ty v × HaveTypes m tys vs
HaveTypes m [] (v ∷ vs) = ⊥
HaveTypes m (ty ∷ tys) [] = ⊥
