-- Global types.
-- WebAssembly core specification, "Types, global types"
use Rattle.std.specs.Prelude.{refl}
use Rattle.std.specs.Coded.{Coded, code_by, coded×}
use Rattle.wasm_types.specs.TypeCodes.{val_type_code}
use Rattle.wasm_types.specs.contracts.plain.Mutability as mutability
use Rattle.wasm_types.specs.declared.plain.Mutability.{Mutability}
use Rattle.wasm_types.specs.declared.value_types.ValType.{ValType}

-- the parts of a global type: the type of its value, and whether it may be set
pub record GlobalParts : Type 0 where
  pub content : ValType
  pub mutability : Mutability

abbrev pub global_parts : ValType → Mutability → GlobalParts
global_parts content mutability = record { content = content; mutability = mutability }

-- a global type is stored as its parts
abbrev pub global_code : Coded GlobalParts
global_code =
    code_by (ValType × Mutability) (coded× val_type_code mutability.the_row.coded)
    (λ g. (g.content, g.mutability)) (λ p. global_parts p.0 p.1) (λ _. refl)
