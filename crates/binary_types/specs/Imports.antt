-- Imports and exports in the binary format.
-- WebAssembly core specification, "Binary Format, Modules, Import Section, Export Section"
use Rattle.std.specs.Prelude.{ℕ, List, nat_eq, if◌then◌else◌, Err}
use Rattle.wasm_types.specs.Signatures.{Signature}
use Rattle.wasm_types.specs.declared.extern_type.ExternType.{ExternType}
use Rattle.wasm_types.specs.declared.extern_type.ExternType.TheVariants as x
use Rattle.wasm_syntax.specs.declared.declarations.ExportDecl.{ExportDecl}
use Rattle.wasm_syntax.specs.declared.declarations.ImportDecl.{ImportDecl}
use Rattle.wasm_syntax.specs.declared.entities.EntityIndex.{EntityIndex}
use Rattle.wasm_syntax.specs.declared.entities.EntityIndex.TheVariants as e
use Rattle.binary_types.specs.Reading.{Read, ◌>>=◌, done, here, byte, u32, fixed, name}
use Rattle.binary_types.specs.Types.{type_at, table_type, memory_type, global_type}
use Rattle.binary_types.specs.declared.faults.BinaryFault.TheVariants.{Unsupported}

-- the type of a tag is a type index behind a zero
abbrev pub tag_type : List Signature → Read Signature
tag_type types = do
  _ ← fixed 0x00
  type_at types

-- the type of what is imported, of this kind
abbrev pub extern_by : List Signature → ℕ → ℕ → Read ExternType
extern_by types at code p =
    if nat_eq code 0x00 then (do t ← type_at types; done (x.Func t)) p else
    (if nat_eq code 0x01 then (do t ← table_type types; done (x.Table t)) p else
    (if nat_eq code 0x02 then (do t ← memory_type; done (x.Memory t)) p else
    (if nat_eq code 0x03 then (do t ← global_type types; done (x.Global t)) p else
    (if nat_eq code 0x04 then (do t ← tag_type types; done (x.Tag t)) p else
    Err (Unsupported at code)))))

abbrev pub extern_type : List Signature → Read ExternType
extern_type types = do
  at ← here
  code ← byte
  extern_by types at code

abbrev pub import : List Signature → Read ImportDecl
import types = do
  from ← name
  item ← name
  ty ← extern_type types
  done (record { «module» = from; name = item; ty = ty })

-- what is exported, of this kind
abbrev pub entity_by : ℕ → ℕ → Read EntityIndex
entity_by at code p =
    if nat_eq code 0x00 then (do n ← u32; done (e.Func n)) p else
    (if nat_eq code 0x01 then (do n ← u32; done (e.Table n)) p else
    (if nat_eq code 0x02 then (do n ← u32; done (e.Memory n)) p else
    (if nat_eq code 0x03 then (do n ← u32; done (e.Global n)) p else
    (if nat_eq code 0x04 then (do n ← u32; done (e.Tag n)) p else
    Err (Unsupported at code)))))

abbrev pub entity : Read EntityIndex
entity = do
  at ← here
  code ← byte
  entity_by at code

abbrev pub export : Read ExportDecl
export = do
  item ← name
  what ← entity
  done (record { name = item; entity = what })
