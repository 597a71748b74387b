-- Element and data segments in the binary format.
-- WebAssembly core specification, "Binary Format, Modules, Element Section, Data Section"; that a list of functions has the
-- type of non-null references is this project's own
use Rattle.std.specs.Prelude.{ℕ, List, true, false, nat_eq, nat_lt, if◌then◌else◌, Err}
use Rattle.wasm_types.specs.Signatures.{Signature}
use Rattle.wasm_types.specs.FunctionParts.{ref_type}
use Rattle.wasm_types.specs.declared.value_types.HeapType.TheVariants as h
use Rattle.wasm_types.specs.declared.value_types.RefType.{RefType}
use Rattle.wasm_syntax.specs.declared.constants.ConstExpr.{ConstExpr}
use Rattle.wasm_syntax.specs.declared.constants.ConstExpr.TheVariants as c
use Rattle.wasm_syntax.specs.declared.segments.DataDecl.{DataDecl}
use Rattle.wasm_syntax.specs.declared.segments.DataMode.{DataMode}
use Rattle.wasm_syntax.specs.declared.segments.DataMode.TheVariants as d
use Rattle.wasm_syntax.specs.declared.segments.ElemDecl.{ElemDecl}
use Rattle.wasm_syntax.specs.declared.segments.ElemMode.{ElemMode}
use Rattle.wasm_syntax.specs.declared.segments.ElemMode.TheVariants as m
use Rattle.binary_types.specs.Constants.{constant}
use Rattle.binary_types.specs.Reading.{Read, ◌>>=◌, done, here, u32, fixed, listed, byte_list}
use Rattle.binary_types.specs.Types.{reference_type}
use Rattle.binary_types.specs.declared.faults.BinaryFault.TheVariants.{Unsupported}

abbrev pub element : RefType → ElemMode → List ConstExpr → ElemDecl
element ty mode items = record { ty = ty; mode = mode; items = items }

abbrev pub function_item : Read ConstExpr
function_item = do
  f ← u32
  done (c.RefFunc f)

-- functions by their indices: of this mode
abbrev pub functions : ElemMode → Read ElemDecl
functions mode = do
  items ← listed function_item
  done (element (ref_type false h.Func) mode items)

-- constants of this type and mode
abbrev pub constants : List Signature → RefType → ElemMode → Read ElemDecl
constants types ty mode = do
  items ← listed (constant types)
  done (element ty mode items)

-- constants of a type that is named
abbrev pub typed : List Signature → ElemMode → Read ElemDecl
typed types mode = do
  ty ← reference_type types
  constants types ty mode

-- a table is named where it is not the first
abbrev pub active_at : List Signature → ℕ → Read ElemMode
active_at types table = do
  offset ← constant types
  done (m.Active table offset)

abbrev pub active : List Signature → Read ElemMode
active types = do
  table ← u32
  active_at types table

-- functions behind the byte that names their kind
abbrev pub unnamed : ElemMode → Read ElemDecl
unnamed mode = do
  _ ← fixed 0x00
  functions mode

abbrev pub functions_by : List Signature → ℕ → Read ElemDecl
functions_by types kind p =
    if nat_eq kind 0 then (do mode ← active_at types 0; functions mode) p else
    (if nat_eq kind 1 then unnamed m.Passive p else
    (if nat_eq kind 2 then (do mode ← active types; unnamed mode) p else
    unnamed m.Declared p))

abbrev pub elements_by : List Signature → ℕ → ℕ → Read ElemDecl
elements_by types at kind p =
    if nat_eq kind 4 then (do mode ← active_at types 0; constants types (ref_type true h.Func) mode) p else
    (if nat_eq kind 5 then typed types m.Passive p else
    (if nat_eq kind 6 then (do mode ← active types; typed types mode) p else
    (if nat_eq kind 7 then typed types m.Declared p else
    Err (Unsupported at kind))))

-- an element segment, by the number that it begins with
abbrev pub segment_by : List Signature → ℕ → ℕ → Read ElemDecl
segment_by types at kind p = if nat_lt kind 4 then functions_by types kind p else elements_by types at kind p

abbrev pub element_segment : List Signature → Read ElemDecl
element_segment types = do
  at ← here
  kind ← u32
  segment_by types at kind

abbrev pub data_active_at : List Signature → ℕ → Read DataMode
data_active_at types memory = do
  offset ← constant types
  done (d.Active memory offset)

abbrev pub data_active : List Signature → Read DataMode
data_active types = do
  memory ← u32
  data_active_at types memory

-- what becomes of a data segment, by the number that it begins with
abbrev pub data_mode_by : List Signature → ℕ → ℕ → Read DataMode
data_mode_by types at kind p =
    if nat_eq kind 0 then data_active_at types 0 p else
    (if nat_eq kind 1 then done d.Passive p else
    (if nat_eq kind 2 then data_active types p else
    Err (Unsupported at kind)))

abbrev pub data_segment : List Signature → Read DataDecl
data_segment types = do
  at ← here
  kind ← u32
  mode ← data_mode_by types at kind
  bytes ← byte_list
  done (record { mode = mode; bytes = bytes })
