-- What single instructions name.
use Rattle.std.specs.Prelude.{ℕ, List, [], ◌∷◌}
use Rattle.wasm_types.specs.declared.value_types.ValType.{ValType}
use Rattle.wasm_types.specs.declared.value_types.ValType.TheVariants as v
use Rattle.wasm_syntax.specs.declared.accesses.LoadOp.{LoadOp}
use Rattle.wasm_syntax.specs.declared.accesses.LoadOp.TheVariants as l
use Rattle.wasm_syntax.specs.declared.accesses.StoreOp.{StoreOp}
use Rattle.wasm_syntax.specs.declared.accesses.StoreOp.TheVariants as s
use Rattle.wasm_syntax.specs.declared.instr.Instr.{Instr}
use Rattle.wasm_syntax.specs.declared.instr.Instr.TheVariants as i

-- the type of the value that a load reads
-- WebAssembly core specification, "Validation, Instructions, Memory instructions"
abbrev pub load_type : LoadOp → ValType
load_type l.I32Load = v.I32
load_type l.I32Load8S = v.I32
load_type l.I32Load8U = v.I32
load_type l.I32Load16S = v.I32
load_type l.I32Load16U = v.I32
load_type l.I64Load = v.I64
load_type l.I64Load8S = v.I64
load_type l.I64Load8U = v.I64
load_type l.I64Load16S = v.I64
load_type l.I64Load16U = v.I64
load_type l.I64Load32S = v.I64
load_type l.I64Load32U = v.I64

-- the type of the value that a store writes
-- WebAssembly core specification, "Validation, Instructions, Memory instructions"
abbrev pub store_type : StoreOp → ValType
store_type s.I32Store = v.I32
store_type s.I32Store8 = v.I32
store_type s.I32Store16 = v.I32
store_type s.I64Store = v.I64
store_type s.I64Store8 = v.I64
store_type s.I64Store16 = v.I64
store_type s.I64Store32 = v.I64

-- the blocks that an instruction names
-- this project's own: the core specification writes inner code in place
abbrev pub blocks_named : Instr → List ℕ
blocks_named (i.Block b) = b ∷ []
blocks_named (i.Loop b) = b ∷ []
blocks_named (i.If a b) = a ∷ b ∷ []
blocks_named _ = []
