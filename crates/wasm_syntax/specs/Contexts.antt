-- The index spaces of a module, and the context in which the code of a function is typed.
-- WebAssembly core specification, "Structure, Modules, Indices" and "Validation, Conventions, Contexts"
use Rattle.std.specs.Prelude.{ℕ, List, [], ◌++◌, map, filter_map, Option, Some, None, slice_get}
use Rattle.std.specs.Option.{option_flatten}
use Rattle.wasm_types.specs.Signatures.{Signature}
use Rattle.wasm_types.specs.FunctionParts.{params, results}
use Rattle.wasm_types.specs.GlobalTypes.{GlobalParts}
use Rattle.wasm_types.specs.MemoryTypes.{MemoryParts}
use Rattle.wasm_types.specs.TableTypes.{TableParts}
use Rattle.wasm_types.specs.declared.extern_type.ExternType.{ExternType}
use Rattle.wasm_types.specs.declared.extern_type.ExternType.TheVariants as x
use Rattle.wasm_types.specs.declared.value_types.RefType.{RefType}
use Rattle.wasm_types.specs.declared.value_types.ValType.{ValType}
use Rattle.wasm_syntax.specs.declared.declarations.Block.{Block}
use Rattle.wasm_syntax.specs.declared.declarations.FuncDecl.{FuncDecl}
use Rattle.wasm_syntax.specs.declared.declarations.GlobalDecl.{GlobalDecl}
use Rattle.wasm_syntax.specs.declared.declarations.ImportDecl.{ImportDecl}
use Rattle.wasm_syntax.specs.declared.declarations.ModuleDecl.{ModuleDecl}
use Rattle.wasm_syntax.specs.declared.declarations.TableDecl.{TableDecl}
use Rattle.wasm_syntax.specs.declared.segments.DataDecl.{DataDecl}
use Rattle.wasm_syntax.specs.declared.segments.ElemDecl.{ElemDecl}

-- the type of an import of one kind
abbrev pub as_function : ExternType → Option Signature
as_function (x.Func t) = Some t
as_function _ = None

abbrev pub as_table : ExternType → Option TableParts
as_table (x.Table t) = Some t
as_table _ = None

abbrev pub as_memory : ExternType → Option MemoryParts
as_memory (x.Memory t) = Some t
as_memory _ = None

abbrev pub as_global : ExternType → Option GlobalParts
as_global (x.Global t) = Some t
as_global _ = None

abbrev pub as_tag : ExternType → Option Signature
as_tag (x.Tag t) = Some t
as_tag _ = None

-- the types of the imports of one kind, in order
abbrev pub imported : {A : Type 0} → (ExternType → Option A) → ModuleDecl → List A
imported as_kind d = filter_map (λ (import : ImportDecl). as_kind import.ty) d.imports

-- each index space: the imports of its kind, then the defined items; a function or a tag whose type number is not there
-- has no type
abbrev pub functions : ModuleDecl → List (Option Signature)
functions d = map Some (imported as_function d) ++ map (λ (f : FuncDecl). slice_get d.types f.ty) d.functions

abbrev pub tables : ModuleDecl → List TableParts
tables d = imported as_table d ++ map (λ (t : TableDecl). t.ty) d.tables

abbrev pub memories : ModuleDecl → List MemoryParts
memories d = imported as_memory d ++ d.memories

abbrev pub globals : ModuleDecl → List GlobalParts
globals d = imported as_global d ++ map (λ (g : GlobalDecl). g.ty) d.globals

abbrev pub tags : ModuleDecl → List (Option Signature)
tags d = map Some (imported as_tag d) ++ map (slice_get d.types) d.tags

-- what the code of a module may name
pub record Spaces : Type 0 where
  pub types : List Signature
  pub functions : List (Option Signature)
  pub tables : List TableParts
  pub memories : List MemoryParts
  pub globals : List GlobalParts
  pub elements : List RefType
  pub datas : List DataDecl

abbrev pub spaces : ModuleDecl → Spaces
spaces d = record {
  types = d.types;
  functions = functions d;
  tables = tables d;
  memories = memories d;
  globals = globals d;
  elements = map (λ (e : ElemDecl). e.ty) d.elements;
  datas = d.datas;
}

-- the type of a function of the index space
abbrev pub function_type : List (Option Signature) → ℕ → Option Signature
function_type fs f = option_flatten (slice_get fs f)

-- what the code of one function may name: also its locals, the parameters first; what it returns; its blocks and target
-- lists
pub record Context : Type 0 where
  pub spaces : Spaces
  pub locals : List ValType
  pub results : List ValType
  pub blocks : List Block
  pub targets : List (List ℕ)

-- the parameters and the results of a type that may not be there
abbrev pub params_of : Option Signature → List ValType
params_of None = []
params_of (Some t) = params t

abbrev pub results_of : Option Signature → List ValType
results_of None = []
results_of (Some t) = results t

-- the context of a defined function
-- WebAssembly core specification, "Validation, Modules, Functions"
abbrev pub context : ModuleDecl → FuncDecl → Context
context d f = record {
  spaces = spaces d;
  locals = params_of (slice_get d.types f.ty) ++ f.locals;
  results = results_of (slice_get d.types f.ty);
  blocks = f.blocks;
  targets = f.targets;
}
