-- The module of generated sessions. This project's own.
use Rattle.std.specs.Prelude.{pos, List, [], ◌∷◌, None, codes}
use Rattle.wasm_types.specs.FunctionParts.{parts, from_parts}
use Rattle.wasm_types.specs.GlobalTypes.{global_parts}
use Rattle.wasm_types.specs.MemoryTypes.{MemoryParts, memory_parts}
use Rattle.wasm_types.specs.Signatures.{Signature}
use Rattle.wasm_types.specs.declared.plain.Finality.TheVariants.{Final}
use Rattle.wasm_types.specs.declared.plain.Mutability.TheVariants.{Var}
use Rattle.wasm_types.specs.declared.value_types.ValType.TheVariants.{I32}
use Rattle.wasm_syntax.specs.declared.accesses.StoreOp.TheVariants.{I32Store}
use Rattle.wasm_syntax.specs.declared.constants.ConstExpr.TheVariants as constant
use Rattle.wasm_syntax.specs.declared.declarations.ExportDecl.{ExportDecl}
use Rattle.wasm_syntax.specs.declared.declarations.FuncDecl.{FuncDecl}
use Rattle.wasm_syntax.specs.declared.declarations.GlobalDecl.{GlobalDecl}
use Rattle.wasm_syntax.specs.declared.declarations.ModuleDecl.{ModuleDecl}
use Rattle.wasm_syntax.specs.declared.entities.EntityIndex.TheVariants as entity
use Rattle.wasm_syntax.specs.declared.instr.Instr.{Instr}
use Rattle.wasm_syntax.specs.declared.instr.Instr.TheVariants.{GlobalGet, LocalGet, Binary, GlobalSet, Const32, Store}
use Rattle.wasm_syntax.specs.declared.operators.BinOp.TheVariants.{I32Add, I32Mul}
use Rattle.script_commands.specs.ScriptModules.{engine_number}

-- from a number to a number
abbrev pub one_to_one : Signature
one_to_one = from_parts (parts 1 Final None (I32 ∷ []) (I32 ∷ []))

abbrev pub one_page : MemoryParts
one_page = memory_parts 1 None 16

-- the argument is added to the global, and the sum is stored at four times the argument and returned
abbrev pub sums_code : List Instr
sums_code =
    GlobalGet 0 ∷ LocalGet 0 ∷ Binary I32Add ∷ GlobalSet 0 ∷ LocalGet 0 ∷ Const32 (pos 4) ∷ Binary I32Mul
    ∷ GlobalGet 0 ∷ Store I32Store 0 0 ∷ GlobalGet 0 ∷ []

abbrev pub sums : FuncDecl
sums = record { ty = 0; locals = []; blocks = record { ty = 0; instrs = sums_code } ∷ []; targets = [] }

-- the sum so far: 0 at first
abbrev pub sum : GlobalDecl
sum = record { ty = global_parts I32 Var; init = constant.I32 (pos 0) }

abbrev pub function_and_memory : List ExportDecl
function_and_memory =
    record { name = codes "f"; entity = entity.Func 0 } ∷ record { name = codes "m"; entity = entity.Memory 0 } ∷ []

abbrev pub generated_module : ModuleDecl
generated_module = record {
  engine = engine_number;
  number = 0;
  types = one_to_one ∷ [];
  imports = [];
  functions = sums ∷ [];
  tables = [];
  memories = one_page ∷ [];
  globals = sum ∷ [];
  tags = [];
  exports = function_and_memory;
  elements = [];
  datas = [];
  start = None;
}
