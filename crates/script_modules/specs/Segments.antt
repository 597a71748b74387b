-- The segments of a module as JSON data. This project's own format.
use Rattle.std.specs.Prelude.{List, [], ◌∷◌, Option, Some, codes, if◌then◌else◌}
use Rattle.serde_json.specs.Data.{Data}
use Rattle.wasm_types.specs.Signatures.{Signature}
use Rattle.script_json.specs.Fields.{◌>>=◌, required, only, yes, list_of, hex_bytes}
use Rattle.script_types.specs.Types.{ref_type_of, whole_32}
use Rattle.wasm_syntax.specs.declared.segments.DataDecl.{DataDecl}
use Rattle.wasm_syntax.specs.declared.segments.DataMode.{DataMode}
use Rattle.wasm_syntax.specs.declared.segments.DataMode.TheVariants as data_mode
use Rattle.wasm_syntax.specs.declared.segments.ElemDecl.{ElemDecl}
use Rattle.wasm_syntax.specs.declared.segments.ElemMode.{ElemMode}
use Rattle.wasm_syntax.specs.declared.segments.ElemMode.TheVariants as elem_mode
use Rattle.script_modules.specs.Constants.{constant_of}
use Rattle.script_modules.specs.Kinds.{has_only}

-- an active segment has its table and its offset
abbrev pub active_elements_of : Data → Option ElemMode
active_elements_of d = do
  _ ← only (codes "ref" ∷ codes "items" ∷ codes "table" ∷ codes "offset" ∷ []) d
  table ← required whole_32 (codes "table") d
  offset ← required constant_of (codes "offset") d
  Some (elem_mode.Active table offset)

-- a declared one says so
abbrev pub declared_elements_of : Data → Option ElemMode
declared_elements_of d = required yes (codes "declared") d >>= (λ _. Some elem_mode.Declared)

-- a passive one has neither
abbrev pub elem_mode_of : Data → Option ElemMode
elem_mode_of d =
    if has_only (codes "ref" ∷ codes "items" ∷ []) d then Some elem_mode.Passive else
    (if has_only (codes "ref" ∷ codes "items" ∷ codes "declared" ∷ []) d then declared_elements_of d else
    active_elements_of d)

-- an element segment: the type of its references, and these as constants
abbrev pub elements_of : List Signature → Data → Option ElemDecl
elements_of types d = do
  mode ← elem_mode_of d
  ty ← required (ref_type_of types) (codes "ref") d
  items ← required (list_of constant_of) (codes "items") d
  Some (record { ty = ty; mode = mode; items = items })

-- an active segment has its memory and its offset
abbrev pub active_data_of : Data → Option DataMode
active_data_of d = do
  _ ← only (codes "bytes" ∷ codes "memory" ∷ codes "offset" ∷ []) d
  memory ← required whole_32 (codes "memory") d
  offset ← required constant_of (codes "offset") d
  Some (data_mode.Active memory offset)

abbrev pub data_mode_of : Data → Option DataMode
data_mode_of d = if has_only (codes "bytes" ∷ []) d then Some data_mode.Passive else active_data_of d

-- a data segment: its bytes as hexadecimal digits
abbrev pub data_of : Data → Option DataDecl
data_of d = do
  mode ← data_mode_of d
  bytes ← required hex_bytes (codes "bytes") d
  Some (record { mode = mode; bytes = bytes })
