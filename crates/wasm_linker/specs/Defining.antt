-- What the calls of a host on a linker make of it, where they look at a store. This project's own; the exports of an
-- instance are those of the WebAssembly core specification, "Execution, runtime structure, export instances".
use Rattle.std.specs.Prelude.{ℕ, Bool, if◌then◌else◌, List, [], ◌∷◌, Option, Some, None, Result, Ok, Err}
use Rattle.std.specs.List.{list_any}
use Rattle.wasm_values.specs.declared.externals.Extern.{Extern}
use Rattle.wasm_values.specs.declared.handles.Instance.{Instance}
use Rattle.wasm_values.specs.declared.refusals.Refusal.{Refusal}
use Rattle.wasm_values.specs.declared.refusals.Refusal.TheVariants.{WrongStore}
use Rattle.spec_machine.specs.InstanceCalls.{instance_at}
use Rattle.spec_machine.specs.Machine.{Machine, InstanceParts}
use Rattle.spec_machine.specs.Values.{owns_extern}
use Rattle.linker_map.specs.Linkers.{LinkerParts, Entry, is_taken, with_item, define_item}
use Rattle.linker_map.specs.declared.faults.LinkFault.{LinkFault}
use Rattle.linker_map.specs.declared.faults.LinkFault.TheVariants.{AlreadyDefined, Refused}
use Rattle.wasm_instance.specs.Exports.{entries, Entry as Export}

-- the pair means this object, which must be of the store
abbrev pub define : Machine → List ℕ → List ℕ → Extern → LinkerParts → Result LinkerParts LinkFault
define m space name item l = if owns_extern m item then define_item space name item l else Err (Refused WrongStore)

-- ---- all that an instance exports

-- each name with its object; in a well-formed store there is one for each
abbrev pub with_export : List ℕ → Option Extern → List Entry → List Entry
with_export name None es = es
with_export name (Some item) es = (name, item) ∷ es

abbrev pub objects_in : List Export → List Entry
objects_in [] = []
objects_in (e ∷ es) = with_export e.0 e.1 (objects_in es)

abbrev pub exports_of : Machine → InstanceParts → List Entry
exports_of m i = objects_in (entries m i)

-- each of them under this first name, in order
abbrev pub with_items : List ℕ → List Entry → LinkerParts → LinkerParts
with_items space [] l = l
with_items space (e ∷ es) l = with_items space es (with_item space e.0 e.1 l)

-- all of them, or none, where one of the pairs may not be defined
abbrev pub is_any_taken : LinkerParts → List ℕ → List Entry → Bool
is_any_taken l space es = list_any (λ (e : Entry). is_taken l space e.0) es

abbrev pub define_all : List ℕ → List Entry → LinkerParts → Result LinkerParts LinkFault
define_all space es l = if is_any_taken l space es then Err AlreadyDefined else Ok (with_items space es l)

abbrev pub define_exports : Machine → List ℕ → LinkerParts → Result InstanceParts Refusal → Result LinkerParts LinkFault
define_exports m space l (Ok i) = define_all space (exports_of m i) l
define_exports m space l (Err why) = Err (Refused why)

abbrev pub define_instance : Machine → List ℕ → Instance → LinkerParts → Result LinkerParts LinkFault
define_instance m space instance l = define_exports m space l (instance_at m instance)
