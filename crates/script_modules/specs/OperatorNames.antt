-- The names of operators in scripts: those of the text format.
-- WebAssembly core specification, "Text Format, Instructions, Numeric Instructions"
use Rattle.std.specs.Prelude.{ℕ, List, Option, Some, None, codes, if◌then◌else◌}
use Rattle.std.specs.Str.{bytes_eq}
use Rattle.wasm_syntax.specs.declared.operators.BinOp.{BinOp}
use Rattle.wasm_syntax.specs.declared.operators.BinOp.TheVariants as b
use Rattle.wasm_syntax.specs.declared.operators.UnOp.{UnOp}
use Rattle.wasm_syntax.specs.declared.operators.UnOp.TheVariants as u

-- the operators of one operand
abbrev pub unary_of : List ℕ → Option UnOp
unary_of name =
    if bytes_eq name (codes "i32.clz") then Some u.I32Clz else
    (if bytes_eq name (codes "i32.ctz") then Some u.I32Ctz else
    (if bytes_eq name (codes "i32.popcnt") then Some u.I32Popcnt else
    (if bytes_eq name (codes "i32.eqz") then Some u.I32Eqz else
    (if bytes_eq name (codes "i32.extend8_s") then Some u.I32Extend8S else
    (if bytes_eq name (codes "i32.extend16_s") then Some u.I32Extend16S else
    (if bytes_eq name (codes "i64.clz") then Some u.I64Clz else
    (if bytes_eq name (codes "i64.ctz") then Some u.I64Ctz else
    (if bytes_eq name (codes "i64.popcnt") then Some u.I64Popcnt else
    (if bytes_eq name (codes "i64.eqz") then Some u.I64Eqz else
    (if bytes_eq name (codes "i64.extend8_s") then Some u.I64Extend8S else
    (if bytes_eq name (codes "i64.extend16_s") then Some u.I64Extend16S else
    (if bytes_eq name (codes "i64.extend32_s") then Some u.I64Extend32S else
    (if bytes_eq name (codes "i32.wrap_i64") then Some u.I32WrapI64 else
    (if bytes_eq name (codes "i64.extend_i32_s") then Some u.I64ExtendI32S else
    (if bytes_eq name (codes "i64.extend_i32_u") then Some u.I64ExtendI32U else None)))))))))))))))

-- the operators of two operands of type i32
abbrev pub binary_32_of : List ℕ → Option BinOp
binary_32_of name =
    if bytes_eq name (codes "i32.add") then Some b.I32Add else
    (if bytes_eq name (codes "i32.sub") then Some b.I32Sub else
    (if bytes_eq name (codes "i32.mul") then Some b.I32Mul else
    (if bytes_eq name (codes "i32.div_s") then Some b.I32DivS else
    (if bytes_eq name (codes "i32.div_u") then Some b.I32DivU else
    (if bytes_eq name (codes "i32.rem_s") then Some b.I32RemS else
    (if bytes_eq name (codes "i32.rem_u") then Some b.I32RemU else
    (if bytes_eq name (codes "i32.and") then Some b.I32And else
    (if bytes_eq name (codes "i32.or") then Some b.I32Or else
    (if bytes_eq name (codes "i32.xor") then Some b.I32Xor else
    (if bytes_eq name (codes "i32.shl") then Some b.I32Shl else
    (if bytes_eq name (codes "i32.shr_s") then Some b.I32ShrS else
    (if bytes_eq name (codes "i32.shr_u") then Some b.I32ShrU else
    (if bytes_eq name (codes "i32.rotl") then Some b.I32Rotl else
    (if bytes_eq name (codes "i32.rotr") then Some b.I32Rotr else
    (if bytes_eq name (codes "i32.eq") then Some b.I32Eq else
    (if bytes_eq name (codes "i32.ne") then Some b.I32Ne else
    (if bytes_eq name (codes "i32.lt_s") then Some b.I32LtS else
    (if bytes_eq name (codes "i32.lt_u") then Some b.I32LtU else
    (if bytes_eq name (codes "i32.gt_s") then Some b.I32GtS else
    (if bytes_eq name (codes "i32.gt_u") then Some b.I32GtU else
    (if bytes_eq name (codes "i32.le_s") then Some b.I32LeS else
    (if bytes_eq name (codes "i32.le_u") then Some b.I32LeU else
    (if bytes_eq name (codes "i32.ge_s") then Some b.I32GeS else
    (if bytes_eq name (codes "i32.ge_u") then Some b.I32GeU else None))))))))))))))))))))))))

-- the operators of two operands of type i64
abbrev pub binary_64_of : List ℕ → Option BinOp
binary_64_of name =
    if bytes_eq name (codes "i64.add") then Some b.I64Add else
    (if bytes_eq name (codes "i64.sub") then Some b.I64Sub else
    (if bytes_eq name (codes "i64.mul") then Some b.I64Mul else
    (if bytes_eq name (codes "i64.div_s") then Some b.I64DivS else
    (if bytes_eq name (codes "i64.div_u") then Some b.I64DivU else
    (if bytes_eq name (codes "i64.rem_s") then Some b.I64RemS else
    (if bytes_eq name (codes "i64.rem_u") then Some b.I64RemU else
    (if bytes_eq name (codes "i64.and") then Some b.I64And else
    (if bytes_eq name (codes "i64.or") then Some b.I64Or else
    (if bytes_eq name (codes "i64.xor") then Some b.I64Xor else
    (if bytes_eq name (codes "i64.shl") then Some b.I64Shl else
    (if bytes_eq name (codes "i64.shr_s") then Some b.I64ShrS else
    (if bytes_eq name (codes "i64.shr_u") then Some b.I64ShrU else
    (if bytes_eq name (codes "i64.rotl") then Some b.I64Rotl else
    (if bytes_eq name (codes "i64.rotr") then Some b.I64Rotr else
    (if bytes_eq name (codes "i64.eq") then Some b.I64Eq else
    (if bytes_eq name (codes "i64.ne") then Some b.I64Ne else
    (if bytes_eq name (codes "i64.lt_s") then Some b.I64LtS else
    (if bytes_eq name (codes "i64.lt_u") then Some b.I64LtU else
    (if bytes_eq name (codes "i64.gt_s") then Some b.I64GtS else
    (if bytes_eq name (codes "i64.gt_u") then Some b.I64GtU else
    (if bytes_eq name (codes "i64.le_s") then Some b.I64LeS else
    (if bytes_eq name (codes "i64.le_u") then Some b.I64LeU else
    (if bytes_eq name (codes "i64.ge_s") then Some b.I64GeS else
    (if bytes_eq name (codes "i64.ge_u") then Some b.I64GeU else None))))))))))))))))))))))))
