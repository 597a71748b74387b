-- The codes of loads and stores in the binary format, and the widths that they read or write.
-- WebAssembly core specification, "Binary Format, Instructions, Memory Instructions"
use Rattle.std.specs.Prelude.{ℕ, Option, Some, None, nat_eq, if◌then◌else◌}
use Rattle.wasm_syntax.specs.declared.accesses.LoadOp.{LoadOp}
use Rattle.wasm_syntax.specs.declared.accesses.LoadOp.TheVariants as l
use Rattle.wasm_syntax.specs.declared.accesses.StoreOp.{StoreOp}
use Rattle.wasm_syntax.specs.declared.accesses.StoreOp.TheVariants as s

abbrev pub load_of : ℕ → Option LoadOp
load_of code =
    if nat_eq code 0x28 then Some l.I32Load else
    (if nat_eq code 0x29 then Some l.I64Load else
    (if nat_eq code 0x2c then Some l.I32Load8S else
    (if nat_eq code 0x2d then Some l.I32Load8U else
    (if nat_eq code 0x2e then Some l.I32Load16S else
    (if nat_eq code 0x2f then Some l.I32Load16U else
    (if nat_eq code 0x30 then Some l.I64Load8S else
    (if nat_eq code 0x31 then Some l.I64Load8U else
    (if nat_eq code 0x32 then Some l.I64Load16S else
    (if nat_eq code 0x33 then Some l.I64Load16U else
    (if nat_eq code 0x34 then Some l.I64Load32S else
    (if nat_eq code 0x35 then Some l.I64Load32U else None)))))))))))

abbrev pub store_of : ℕ → Option StoreOp
store_of code =
    if nat_eq code 0x36 then Some s.I32Store else
    (if nat_eq code 0x37 then Some s.I64Store else
    (if nat_eq code 0x3a then Some s.I32Store8 else
    (if nat_eq code 0x3b then Some s.I32Store16 else
    (if nat_eq code 0x3c then Some s.I64Store8 else
    (if nat_eq code 0x3d then Some s.I64Store16 else
    (if nat_eq code 0x3e then Some s.I64Store32 else None))))))

-- how many bytes, as an exponent of 2
abbrev pub load_width : LoadOp → ℕ
load_width l.I32Load = 2
load_width l.I64Load = 3
load_width l.I32Load8S = 0
load_width l.I32Load8U = 0
load_width l.I32Load16S = 1
load_width l.I32Load16U = 1
load_width l.I64Load8S = 0
load_width l.I64Load8U = 0
load_width l.I64Load16S = 1
load_width l.I64Load16U = 1
load_width l.I64Load32S = 2
load_width l.I64Load32U = 2

abbrev pub store_width : StoreOp → ℕ
store_width s.I32Store = 2
store_width s.I64Store = 3
store_width s.I32Store8 = 0
store_width s.I32Store16 = 1
store_width s.I64Store8 = 0
store_width s.I64Store16 = 1
store_width s.I64Store32 = 2
