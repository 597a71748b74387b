-- What the types of an operator say of its widths, for an operator that is not known.
use Rattle.std.specs.Prelude.{◌≡◌, ◌⊎◌}
use Rattle.std.proofs.Common.{inl, inr, refl, rules}
use Rattle.wasm_types.specs.declared.value_types.ValType.TheVariants as v
use Rattle.wasm_syntax.specs.Operators.{binary_width, binary_operands, unary_width, unary_operand}
use Rattle.wasm_syntax.specs.declared.operators.UnOp.{UnOp}
use Rattle.wasm_syntax.specs.declared.operators.UnOp.TheVariants.{I32Clz}
use Rattle.wasm_syntax.specs.declared.operators.BinOp.{BinOp}
use Rattle.wasm_syntax.specs.declared.operators.BinOp.TheVariants.{I32Add}

pub binary_32_or_64 : (op : BinOp) → ((binary_width op ≡ 32) × (binary_operands op ≡ v.I32)) ⊎ ((binary_width op ≡ 64) × (binary_operands op ≡ v.I64))
binary_32_or_64 I32Add = inl (refl, refl)
binary_32_or_64 _ = search (rules, inl, inr)

pub unary_32_or_64 : (op : UnOp) → ((unary_width op ≡ 32) × (unary_operand op ≡ v.I32)) ⊎ ((unary_width op ≡ 64) × (unary_operand op ≡ v.I64))
unary_32_or_64 I32Clz = inl (refl, refl)
unary_32_or_64 _ = search (rules, inl, inr)
