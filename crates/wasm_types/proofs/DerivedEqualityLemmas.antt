-- The derived `==` of reference types and of value types is equality.
use Rattle.std.specs.Prelude.{◌&&◌, ◌≡◌}
use Rattle.std.proofs.Common.{ap, sym, ◌∙◌}
use Rattle.std.proofs.Math.Bool.{and-true}
use Rattle.std.specs.Bool.{beq}
use Rattle.wasm_types.specs.Signatures.{end}
use Rattle.wasm_types.specs.ExternTypes.{same_ref_type, same_val_type}
use Rattle.wasm_types.proofs.RoundTripLemmas.{heaps_alike, type_alike}
use Rattle.wasm_types.specs.declared.value_types.RefType.{RefType}
use Rattle.wasm_types.specs.declared.value_types.ValType.{ValType}
use Rattle.wasm_types.specs.contracts.value_types.RefTypePartialEq.TheImpl.{ghosts as ref_eq}
use Rattle.wasm_types.specs.contracts.value_types.ValTypePartialEq.TheImpl.{ghosts as val_eq}

pub ref_alike : (r s : RefType) → ref_eq.eq r s ≡ same_ref_type r s
ref_alike r s = ap (λ b. beq r.nullable s.nullable && b) (heaps_alike r.heap_type s.heap_type)

pub val_alike : (t u : ValType) → val_eq.eq t u ≡ same_val_type t u
val_alike t u = sym (and-true (val_eq.eq t u)) ∙ type_alike t u end end
