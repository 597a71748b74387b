-- Types and declarations that the worked examples share.
use Rattle.std.proofs.Common.{ℕ, List, [], ◌∷◌, Some, None, pos, true, false}
use Rattle.wasm_types.specs.Signatures.{Signature, Types}
use Rattle.wasm_types.specs.Signatures as sig
use Rattle.wasm_types.specs.FunctionParts.{ref_type}
use Rattle.wasm_types.specs.GlobalTypes.{global_parts}
use Rattle.wasm_types.specs.MemoryTypes.{memory_parts}
use Rattle.wasm_types.specs.TableTypes.{TableParts, table_parts}
use Rattle.wasm_types.specs.declared.plain.Finality.TheVariants.{Final}
use Rattle.wasm_types.specs.declared.plain.HeapTopType.TheVariants as top
use Rattle.wasm_types.specs.declared.plain.Mutability.TheVariants.{Const, Var}
use Rattle.wasm_types.specs.declared.value_types.HeapType.{HeapType}
use Rattle.wasm_types.specs.declared.value_types.HeapType.TheVariants as h
use Rattle.wasm_types.specs.declared.value_types.ValType.TheVariants as v
use Rattle.wasm_syntax.specs.Contexts.{context}
use Rattle.wasm_syntax.specs.Typing.{Typed, typing}
use Rattle.wasm_syntax.specs.declared.constants.ConstExpr.TheVariants as k
use Rattle.wasm_syntax.specs.declared.declarations.Block.{Block}
use Rattle.wasm_syntax.specs.declared.declarations.FuncDecl.{FuncDecl}
use Rattle.wasm_syntax.specs.declared.declarations.ModuleDecl.{ModuleDecl}
use Rattle.wasm_syntax.specs.declared.entities.EntityIndex.TheVariants as e
use Rattle.wasm_syntax.specs.declared.instr.Instr.{Instr}
use Rattle.wasm_syntax.specs.declared.segments.DataMode.TheVariants as data_mode
use Rattle.wasm_syntax.specs.declared.segments.ElemMode.TheVariants as elem_mode

-- function types of engine 1: () -> (), () -> i32, i32 -> i32, (i32, i64) -> ()
abbrev pub quiet : Signature
quiet = sig.signature 1 Final sig.root sig.end sig.end

abbrev pub answer : Signature
answer = sig.signature 1 Final sig.root sig.end (sig.number sig.i32 sig.end)

abbrev pub change : Signature
change = sig.signature 1 Final sig.root (sig.number sig.i32 sig.end) (sig.number sig.i32 sig.end)

abbrev pub takes_two : Signature
takes_two = sig.signature 1 Final sig.root (sig.number sig.i32 (sig.number sig.i64 sig.end)) sig.end

abbrev pub block : ℕ → List Instr → Block
block ty is = record { ty = ty; instrs = is }

abbrev pub table_of : HeapType → TableParts
table_of t = table_parts (ref_type true t) 1 None

-- a function of type () -> () without locals
abbrev pub function : List Block → FuncDecl
function bs = record { ty = 0; locals = []; blocks = bs; targets = [] }

-- a module of engine 1 that has these types and nothing else
abbrev pub no_items : ModuleDecl
no_items = record {
  engine = record { 0 = 1 };
  number = 0;
  types = quiet ∷ answer ∷ change ∷ takes_two ∷ [];
  imports = [];
  functions = [];
  tables = [];
  memories = [];
  globals = [];
  tags = [];
  exports = [];
  elements = [];
  datas = [];
  start = None;
}

-- a module with a table of functions, one of externs and one of nulls, a memory, a constant global and a variable one,
-- and a segment of functions and one of bytes
abbrev pub full : ModuleDecl
full = record no_items {
  functions = function (block 0 [] ∷ []) ∷ [];
  tables =
      record { ty = table_of h.Func; init = k.RefFunc 0 }
      ∷ record { ty = table_of h.Extern; init = k.RefNull top.Extern }
      ∷ record { ty = table_of h.NoFunc; init = k.RefNull top.Func } ∷ [];
  memories = memory_parts 1 None 16 ∷ [];
  globals =
      record { ty = global_parts v.I32 Const; init = k.I32 (pos 3) } ∷ record { ty = global_parts v.I64 Var; init = k.I64 (pos 4) } ∷ [];
  exports = record { name = 102 ∷ []; entity = e.Func 0 } ∷ record { name = 109 ∷ []; entity = e.Memory 0 } ∷ [];
  elements = record { ty = ref_type false h.Func; mode = elem_mode.Active 0 (k.GlobalGet 0); items = k.RefFunc 0 ∷ [] } ∷ [];
  datas = record { mode = data_mode.Passive; bytes = 1 ∷ 2 ∷ [] } ∷ [];
  start = Some 0;
}

-- a function of type i32 -> i32 with a local of type i64, these blocks and one target list
abbrev pub coded : List Block → List ℕ → FuncDecl
coded bs labels = record { ty = 2; locals = v.I64 ∷ []; blocks = bs; targets = labels ∷ [] }

-- the typing of code in such a function, from no operands, under two labels, of which the outer one carries an i32
abbrev pub type_in : List Block → List ℕ → List Instr → Typed
type_in bs labels is = typing (context full (coded bs labels)) ([] ∷ (v.I32 ∷ []) ∷ []) [] is

-- the same without blocks and targets
abbrev pub type_of : List Instr → Typed
type_of is = type_in [] [] is
