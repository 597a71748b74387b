-- The names of instructions in scripts: those of the text format.
-- WebAssembly core specification, "Text Format, Instructions"
use Rattle.std.specs.Prelude.{ℕ, List, Option, Some, None, option_map, codes, if◌then◌else◌}
use Rattle.std.specs.Option.{option_or}
use Rattle.std.specs.Str.{bytes_eq}
use Rattle.wasm_syntax.specs.declared.instr.Instr.{Instr}
use Rattle.wasm_syntax.specs.declared.instr.Instr.TheVariants as i
use Rattle.script_modules.specs.AccessNames.{load_of, store_of}
use Rattle.script_modules.specs.OperatorNames.{unary_of, binary_32_of, binary_64_of}
use Rattle.script_modules.specs.declared.instr_names.IndexedName.{IndexedName}
use Rattle.script_modules.specs.declared.instr_names.IndexedName.TheVariants as indexed
use Rattle.script_modules.specs.declared.instr_names.InstrName.{InstrName}
use Rattle.script_modules.specs.declared.instr_names.InstrName.TheVariants.{Straight, Structured}
use Rattle.script_modules.specs.declared.instr_names.PairedName.{PairedName}
use Rattle.script_modules.specs.declared.instr_names.PairedName.TheVariants as paired
use Rattle.script_modules.specs.declared.instr_names.StraightName.{StraightName}
use Rattle.script_modules.specs.declared.instr_names.StraightName.TheVariants as straight
use Rattle.script_modules.specs.declared.instr_names.StructuredName.{StructuredName}
use Rattle.script_modules.specs.declared.instr_names.StructuredName.TheVariants as structured

-- those without immediates that are no operators
abbrev pub plain_of : List ℕ → Option Instr
plain_of name =
    if bytes_eq name (codes "unreachable") then Some i.Unreachable else
    (if bytes_eq name (codes "nop") then Some i.Nop else
    (if bytes_eq name (codes "return") then Some i.Return else
    (if bytes_eq name (codes "drop") then Some i.Drop else
    (if bytes_eq name (codes "select") then Some i.Select else
    (if bytes_eq name (codes "ref.is_null") then Some i.RefIsNull else None)))))

-- those with one index or label
abbrev pub indexed_of : List ℕ → Option IndexedName
indexed_of name =
    if bytes_eq name (codes "br") then Some indexed.Br else
    (if bytes_eq name (codes "br_if") then Some indexed.BrIf else
    (if bytes_eq name (codes "call") then Some indexed.Call else
    (if bytes_eq name (codes "local.get") then Some indexed.LocalGet else
    (if bytes_eq name (codes "local.set") then Some indexed.LocalSet else
    (if bytes_eq name (codes "local.tee") then Some indexed.LocalTee else
    (if bytes_eq name (codes "global.get") then Some indexed.GlobalGet else
    (if bytes_eq name (codes "global.set") then Some indexed.GlobalSet else
    (if bytes_eq name (codes "memory.size") then Some indexed.MemorySize else
    (if bytes_eq name (codes "memory.grow") then Some indexed.MemoryGrow else
    (if bytes_eq name (codes "memory.fill") then Some indexed.MemoryFill else
    (if bytes_eq name (codes "data.drop") then Some indexed.DataDrop else
    (if bytes_eq name (codes "ref.func") then Some indexed.RefFunc else
    (if bytes_eq name (codes "table.get") then Some indexed.TableGet else
    (if bytes_eq name (codes "table.set") then Some indexed.TableSet else
    (if bytes_eq name (codes "table.size") then Some indexed.TableSize else
    (if bytes_eq name (codes "table.grow") then Some indexed.TableGrow else
    (if bytes_eq name (codes "table.fill") then Some indexed.TableFill else
    (if bytes_eq name (codes "elem.drop") then Some indexed.ElemDrop else None))))))))))))))))))

-- those with two indices
abbrev pub paired_of : List ℕ → Option PairedName
paired_of name =
    if bytes_eq name (codes "call_indirect") then Some paired.CallIndirect else
    (if bytes_eq name (codes "memory.copy") then Some paired.MemoryCopy else
    (if bytes_eq name (codes "memory.init") then Some paired.MemoryInit else
    (if bytes_eq name (codes "table.copy") then Some paired.TableCopy else
    (if bytes_eq name (codes "table.init") then Some paired.TableInit else None))))

-- those whose lists hold code or labels
abbrev pub structured_of : List ℕ → Option StructuredName
structured_of name =
    if bytes_eq name (codes "block") then Some structured.Block else
    (if bytes_eq name (codes "loop") then Some structured.Loop else
    (if bytes_eq name (codes "if") then Some structured.If else
    (if bytes_eq name (codes "br_table") then Some structured.BrTable else None)))

-- those with a number or a heap type
abbrev pub immediate_of : List ℕ → Option StraightName
immediate_of name =
    if bytes_eq name (codes "i32.const") then Some straight.Const32 else
    (if bytes_eq name (codes "i64.const") then Some straight.Const64 else
    (if bytes_eq name (codes "ref.null") then Some straight.RefNull else None))

-- the operators
abbrev pub operator_of : List ℕ → Option Instr
operator_of name =
    option_or (option_map i.Binary (binary_32_of name))
    (option_or (option_map i.Binary (binary_64_of name)) (option_map i.Unary (unary_of name)))

-- the loads and stores
abbrev pub access_of : List ℕ → Option StraightName
access_of name = option_or (option_map straight.Load (load_of name)) (option_map straight.Store (store_of name))

-- the instructions whose lists hold no code or labels
abbrev pub straight_of : List ℕ → Option StraightName
straight_of name =
    option_or (option_map straight.Indexed (indexed_of name))
    (option_or (immediate_of name)
    (option_or (option_map straight.Plain (plain_of name))
    (option_or (option_map straight.Plain (operator_of name))
    (option_or (access_of name) (option_map straight.Paired (paired_of name))))))

-- the instruction of a name
unfoldable pub name_of : List ℕ → Option InstrName
name_of name = option_or (option_map Structured (structured_of name)) (option_map Straight (straight_of name))
