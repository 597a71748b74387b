-- The codes of instructions in the binary format, and what follows each.
-- WebAssembly core specification, "Binary Format, Instructions", narrowed to this project's profile
use Rattle.std.specs.Prelude.{ℕ, Option, Some, None, nat_eq, if◌then◌else◌, option_map}
use Rattle.std.specs.Option.{option_or}
use Rattle.wasm_syntax.specs.declared.instr.Instr.{Instr}
use Rattle.wasm_syntax.specs.declared.instr.Instr.TheVariants as i
use Rattle.binary_code.specs.AccessCodes.{load_of, store_of}
use Rattle.binary_code.specs.OperatorCodes.{unary_of, binary_32_of, binary_64_of}
use Rattle.binary_code.specs.declared.forms.Form.{Form}
use Rattle.binary_code.specs.declared.forms.Form.TheVariants as form
use Rattle.binary_code.specs.declared.forms.IndexedForm.{IndexedForm}
use Rattle.binary_code.specs.declared.forms.IndexedForm.TheVariants as indexed
use Rattle.binary_code.specs.declared.forms.LongForm.{LongForm}
use Rattle.binary_code.specs.declared.forms.LongForm.TheVariants as long
use Rattle.binary_code.specs.declared.forms.Opener.{Opener}
use Rattle.binary_code.specs.declared.forms.Opener.TheVariants as opener
use Rattle.binary_code.specs.declared.forms.PairedForm.{PairedForm}
use Rattle.binary_code.specs.declared.forms.PairedForm.TheVariants as paired
use Rattle.binary_code.specs.declared.forms.StraightForm.{StraightForm}
use Rattle.binary_code.specs.declared.forms.StraightForm.TheVariants as straight

-- those of which nothing follows, but for the operators
abbrev pub plain_of : ℕ → Option Instr
plain_of code =
    if nat_eq code 0x00 then Some i.Unreachable else
    (if nat_eq code 0x01 then Some i.Nop else
    (if nat_eq code 0x0f then Some i.Return else
    (if nat_eq code 0x1a then Some i.Drop else
    (if nat_eq code 0x1b then Some i.Select else
    (if nat_eq code 0xd1 then Some i.RefIsNull else None)))))

abbrev pub operator_of : ℕ → Option Instr
operator_of code =
    option_or (option_map i.Binary (binary_32_of code))
    (option_or (option_map i.Binary (binary_64_of code)) (option_map i.Unary (unary_of code)))

-- those of one number
abbrev pub indexed_of : ℕ → Option IndexedForm
indexed_of code =
    if nat_eq code 0x0c then Some indexed.Br else
    (if nat_eq code 0x0d then Some indexed.BrIf else
    (if nat_eq code 0x10 then Some indexed.Call else
    (if nat_eq code 0x20 then Some indexed.LocalGet else
    (if nat_eq code 0x21 then Some indexed.LocalSet else
    (if nat_eq code 0x22 then Some indexed.LocalTee else
    (if nat_eq code 0x23 then Some indexed.GlobalGet else
    (if nat_eq code 0x24 then Some indexed.GlobalSet else
    (if nat_eq code 0x25 then Some indexed.TableGet else
    (if nat_eq code 0x26 then Some indexed.TableSet else
    (if nat_eq code 0x3f then Some indexed.MemorySize else
    (if nat_eq code 0x40 then Some indexed.MemoryGrow else
    (if nat_eq code 0xd2 then Some indexed.RefFunc else None))))))))))))

-- those that open a list of instructions
abbrev pub opener_of : ℕ → Option Opener
opener_of code =
    if nat_eq code 0x02 then Some opener.Block else
    (if nat_eq code 0x03 then Some opener.Loop else
    (if nat_eq code 0x04 then Some opener.If else None))

-- the other straight instructions
abbrev pub immediate_of : ℕ → Option StraightForm
immediate_of code =
    if nat_eq code 0x41 then Some straight.Const32 else
    (if nat_eq code 0x42 then Some straight.Const64 else
    (if nat_eq code 0xd0 then Some straight.RefNull else
    (if nat_eq code 0x11 then Some straight.CallIndirect else
    (if nat_eq code 0xfc then Some straight.Long else None))))

abbrev pub access_of : ℕ → Option StraightForm
access_of code = option_or (option_map straight.Load (load_of code)) (option_map straight.Store (store_of code))

abbrev pub straight_of : ℕ → Option StraightForm
straight_of code =
    option_or (option_map straight.Indexed (indexed_of code))
    (option_or (immediate_of code)
    (option_or (option_map straight.Plain (operator_of code))
    (option_or (access_of code) (option_map straight.Plain (plain_of code)))))

-- a branch table, and the borders of lists of instructions
abbrev pub border_of : ℕ → Option Form
border_of code =
    if nat_eq code 0x0e then Some form.BrTable else
    (if nat_eq code 0x05 then Some form.Else else
    (if nat_eq code 0x0b then Some form.End else None))

-- what a code begins
abbrev pub form_of : ℕ → Option Form
form_of code =
    option_or (option_map form.Straight (straight_of code))
    (option_or (border_of code) (option_map form.Opens (opener_of code)))

-- what the number behind fc begins
abbrev pub long_indexed_of : ℕ → Option IndexedForm
long_indexed_of code =
    if nat_eq code 9 then Some indexed.DataDrop else
    (if nat_eq code 11 then Some indexed.MemoryFill else
    (if nat_eq code 13 then Some indexed.ElemDrop else
    (if nat_eq code 15 then Some indexed.TableGrow else
    (if nat_eq code 16 then Some indexed.TableSize else
    (if nat_eq code 17 then Some indexed.TableFill else None)))))

abbrev pub long_paired_of : ℕ → Option PairedForm
long_paired_of code =
    if nat_eq code 8 then Some paired.MemoryInit else
    (if nat_eq code 10 then Some paired.MemoryCopy else
    (if nat_eq code 12 then Some paired.TableInit else
    (if nat_eq code 14 then Some paired.TableCopy else None)))

abbrev pub long_of : ℕ → Option LongForm
long_of n = option_or (option_map long.Indexed (long_indexed_of n)) (option_map long.Paired (long_paired_of n))

-- the instruction of one number
abbrev pub instr_of_one : IndexedForm → ℕ → Instr
instr_of_one indexed.Br n = i.Br n
instr_of_one indexed.BrIf n = i.BrIf n
instr_of_one indexed.Call n = i.Call n
instr_of_one indexed.LocalGet n = i.LocalGet n
instr_of_one indexed.LocalSet n = i.LocalSet n
instr_of_one indexed.LocalTee n = i.LocalTee n
instr_of_one indexed.GlobalGet n = i.GlobalGet n
instr_of_one indexed.GlobalSet n = i.GlobalSet n
instr_of_one indexed.TableGet n = i.TableGet n
instr_of_one indexed.TableSet n = i.TableSet n
instr_of_one indexed.MemorySize n = i.MemorySize n
instr_of_one indexed.MemoryGrow n = i.MemoryGrow n
instr_of_one indexed.RefFunc n = i.RefFunc n
instr_of_one indexed.DataDrop n = i.DataDrop n
instr_of_one indexed.MemoryFill n = i.MemoryFill n
instr_of_one indexed.ElemDrop n = i.ElemDrop n
instr_of_one indexed.TableGrow n = i.TableGrow n
instr_of_one indexed.TableSize n = i.TableSize n
instr_of_one indexed.TableFill n = i.TableFill n

-- the instruction of two numbers, which the format has in this order: a segment before what it is written into
abbrev pub instr_of_two : PairedForm → ℕ → ℕ → Instr
instr_of_two paired.MemoryInit segment memory = i.MemoryInit memory segment
instr_of_two paired.MemoryCopy dst src = i.MemoryCopy dst src
instr_of_two paired.TableInit segment table = i.TableInit table segment
instr_of_two paired.TableCopy dst src = i.TableCopy dst src
