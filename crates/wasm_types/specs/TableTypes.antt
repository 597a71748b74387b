-- Table types.
-- WebAssembly core specification, "Types, table types" and "Validation, limits"
use Rattle.std.specs.Prelude.{ℕ, Bool, Option, refl}
use Rattle.std.specs.Coded.{Coded, code_by, coded×, coded_ℕ, coded_option}
use Rattle.wasm_types.specs.MemoryTypes.{within_maximum}
use Rattle.wasm_types.specs.declared.value_types.RefType.{RefType}
use Rattle.wasm_types.specs.TypeCodes.{ref_type_code}

-- the parts of a table type: the type of an element, and the least and the greatest number of elements
pub record TableParts : Type 0 where
  pub element : RefType
  pub minimum : ℕ
  pub maximum : Option ℕ

abbrev pub table_parts : RefType → ℕ → Option ℕ → TableParts
table_parts element minimum maximum = record { element = element; minimum = minimum; maximum = maximum }

-- the minimum is within the maximum
abbrev pub are_table_limits : TableParts → Bool
are_table_limits l = within_maximum l.minimum l.maximum

-- a table type is stored as its parts
abbrev pub table_code : Coded TableParts
table_code =
    code_by (RefType × (ℕ × Option ℕ)) (coded× ref_type_code (coded× coded_ℕ (coded_option coded_ℕ)))
    (λ l. (l.element, (l.minimum, l.maximum))) (λ p. table_parts p.0 p.1.0 p.1.1) (λ _. refl)
