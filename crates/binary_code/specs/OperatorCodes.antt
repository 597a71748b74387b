-- The codes of operators in the binary format.
-- WebAssembly core specification, "Binary Format, Instructions, Numeric Instructions", narrowed to integers
use Rattle.std.specs.Prelude.{ℕ, Option, Some, None, nat_eq, if◌then◌else◌}
use Rattle.wasm_syntax.specs.declared.operators.BinOp.{BinOp}
use Rattle.wasm_syntax.specs.declared.operators.BinOp.TheVariants as b
use Rattle.wasm_syntax.specs.declared.operators.UnOp.{UnOp}
use Rattle.wasm_syntax.specs.declared.operators.UnOp.TheVariants as u

-- those of one operand
abbrev pub unary_of : ℕ → Option UnOp
unary_of code =
    if nat_eq code 0x67 then Some u.I32Clz else
    (if nat_eq code 0x68 then Some u.I32Ctz else
    (if nat_eq code 0x69 then Some u.I32Popcnt else
    (if nat_eq code 0x45 then Some u.I32Eqz else
    (if nat_eq code 0xc0 then Some u.I32Extend8S else
    (if nat_eq code 0xc1 then Some u.I32Extend16S else
    (if nat_eq code 0x79 then Some u.I64Clz else
    (if nat_eq code 0x7a then Some u.I64Ctz else
    (if nat_eq code 0x7b then Some u.I64Popcnt else
    (if nat_eq code 0x50 then Some u.I64Eqz else
    (if nat_eq code 0xc2 then Some u.I64Extend8S else
    (if nat_eq code 0xc3 then Some u.I64Extend16S else
    (if nat_eq code 0xc4 then Some u.I64Extend32S else
    (if nat_eq code 0xa7 then Some u.I32WrapI64 else
    (if nat_eq code 0xac then Some u.I64ExtendI32S else
    (if nat_eq code 0xad then Some u.I64ExtendI32U else None)))))))))))))))

-- those of two operands of type i32
abbrev pub binary_32_of : ℕ → Option BinOp
binary_32_of code =
    if nat_eq code 0x46 then Some b.I32Eq else
    (if nat_eq code 0x47 then Some b.I32Ne else
    (if nat_eq code 0x48 then Some b.I32LtS else
    (if nat_eq code 0x49 then Some b.I32LtU else
    (if nat_eq code 0x4a then Some b.I32GtS else
    (if nat_eq code 0x4b then Some b.I32GtU else
    (if nat_eq code 0x4c then Some b.I32LeS else
    (if nat_eq code 0x4d then Some b.I32LeU else
    (if nat_eq code 0x4e then Some b.I32GeS else
    (if nat_eq code 0x4f then Some b.I32GeU else
    (if nat_eq code 0x6a then Some b.I32Add else
    (if nat_eq code 0x6b then Some b.I32Sub else
    (if nat_eq code 0x6c then Some b.I32Mul else
    (if nat_eq code 0x6d then Some b.I32DivS else
    (if nat_eq code 0x6e then Some b.I32DivU else
    (if nat_eq code 0x6f then Some b.I32RemS else
    (if nat_eq code 0x70 then Some b.I32RemU else
    (if nat_eq code 0x71 then Some b.I32And else
    (if nat_eq code 0x72 then Some b.I32Or else
    (if nat_eq code 0x73 then Some b.I32Xor else
    (if nat_eq code 0x74 then Some b.I32Shl else
    (if nat_eq code 0x75 then Some b.I32ShrS else
    (if nat_eq code 0x76 then Some b.I32ShrU else
    (if nat_eq code 0x77 then Some b.I32Rotl else
    (if nat_eq code 0x78 then Some b.I32Rotr else None))))))))))))))))))))))))

-- those of two operands of type i64
abbrev pub binary_64_of : ℕ → Option BinOp
binary_64_of code =
    if nat_eq code 0x51 then Some b.I64Eq else
    (if nat_eq code 0x52 then Some b.I64Ne else
    (if nat_eq code 0x53 then Some b.I64LtS else
    (if nat_eq code 0x54 then Some b.I64LtU else
    (if nat_eq code 0x55 then Some b.I64GtS else
    (if nat_eq code 0x56 then Some b.I64GtU else
    (if nat_eq code 0x57 then Some b.I64LeS else
    (if nat_eq code 0x58 then Some b.I64LeU else
    (if nat_eq code 0x59 then Some b.I64GeS else
    (if nat_eq code 0x5a then Some b.I64GeU else
    (if nat_eq code 0x7c then Some b.I64Add else
    (if nat_eq code 0x7d then Some b.I64Sub else
    (if nat_eq code 0x7e then Some b.I64Mul else
    (if nat_eq code 0x7f then Some b.I64DivS else
    (if nat_eq code 0x80 then Some b.I64DivU else
    (if nat_eq code 0x81 then Some b.I64RemS else
    (if nat_eq code 0x82 then Some b.I64RemU else
    (if nat_eq code 0x83 then Some b.I64And else
    (if nat_eq code 0x84 then Some b.I64Or else
    (if nat_eq code 0x85 then Some b.I64Xor else
    (if nat_eq code 0x86 then Some b.I64Shl else
    (if nat_eq code 0x87 then Some b.I64ShrS else
    (if nat_eq code 0x88 then Some b.I64ShrU else
    (if nat_eq code 0x89 then Some b.I64Rotl else
    (if nat_eq code 0x8a then Some b.I64Rotr else None))))))))))))))))))))))))
