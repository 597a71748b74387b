-- The names of loads and stores in scripts: those of the text format.
-- WebAssembly core specification, "Text Format, Instructions, Memory Instructions"
use Rattle.std.specs.Prelude.{ℕ, List, Option, Some, None, codes, if◌then◌else◌}
use Rattle.std.specs.Str.{bytes_eq}
use Rattle.wasm_syntax.specs.declared.accesses.LoadOp.{LoadOp}
use Rattle.wasm_syntax.specs.declared.accesses.LoadOp.TheVariants as l
use Rattle.wasm_syntax.specs.declared.accesses.StoreOp.{StoreOp}
use Rattle.wasm_syntax.specs.declared.accesses.StoreOp.TheVariants as s

-- the loads
abbrev pub load_of : List ℕ → Option LoadOp
load_of name =
    if bytes_eq name (codes "i32.load") then Some l.I32Load else
    (if bytes_eq name (codes "i32.load8_s") then Some l.I32Load8S else
    (if bytes_eq name (codes "i32.load8_u") then Some l.I32Load8U else
    (if bytes_eq name (codes "i32.load16_s") then Some l.I32Load16S else
    (if bytes_eq name (codes "i32.load16_u") then Some l.I32Load16U else
    (if bytes_eq name (codes "i64.load") then Some l.I64Load else
    (if bytes_eq name (codes "i64.load8_s") then Some l.I64Load8S else
    (if bytes_eq name (codes "i64.load8_u") then Some l.I64Load8U else
    (if bytes_eq name (codes "i64.load16_s") then Some l.I64Load16S else
    (if bytes_eq name (codes "i64.load16_u") then Some l.I64Load16U else
    (if bytes_eq name (codes "i64.load32_s") then Some l.I64Load32S else
    (if bytes_eq name (codes "i64.load32_u") then Some l.I64Load32U else None)))))))))))

-- the stores
abbrev pub store_of : List ℕ → Option StoreOp
store_of name =
    if bytes_eq name (codes "i32.store") then Some s.I32Store else
    (if bytes_eq name (codes "i32.store8") then Some s.I32Store8 else
    (if bytes_eq name (codes "i32.store16") then Some s.I32Store16 else
    (if bytes_eq name (codes "i64.store") then Some s.I64Store else
    (if bytes_eq name (codes "i64.store8") then Some s.I64Store8 else
    (if bytes_eq name (codes "i64.store16") then Some s.I64Store16 else
    (if bytes_eq name (codes "i64.store32") then Some s.I64Store32 else None))))))
