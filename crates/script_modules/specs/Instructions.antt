-- Instructions whose arrays hold no code and no labels, as JSON data. This project's own format.
use Rattle.std.specs.Prelude.{ℕ, Option, Some}
use Rattle.serde_json.specs.Data.{Data}
use Rattle.script_json.specs.Fields.{◌>>=◌, signed_32, signed_64}
use Rattle.script_types.specs.Types.{whole_32}
use Rattle.wasm_syntax.specs.declared.instr.Instr.{Instr}
use Rattle.wasm_syntax.specs.declared.instr.Instr.TheVariants as i
use Rattle.script_modules.specs.Constants.{heap_top_of}
use Rattle.script_modules.specs.Immediates.{no_immediate, one_immediate, two_immediates}
use Rattle.script_modules.specs.declared.instr_names.IndexedName.{IndexedName}
use Rattle.script_modules.specs.declared.instr_names.IndexedName.TheVariants as index
use Rattle.script_modules.specs.declared.instr_names.PairedName.{PairedName}
use Rattle.script_modules.specs.declared.instr_names.PairedName.TheVariants as pair
use Rattle.script_modules.specs.declared.instr_names.StraightName.{StraightName}
use Rattle.script_modules.specs.declared.instr_names.StraightName.TheVariants as straight

-- the instruction of one index or label
abbrev pub indexed : IndexedName → ℕ → Instr
indexed index.Br n = i.Br n
indexed index.BrIf n = i.BrIf n
indexed index.Call n = i.Call n
indexed index.LocalGet n = i.LocalGet n
indexed index.LocalSet n = i.LocalSet n
indexed index.LocalTee n = i.LocalTee n
indexed index.GlobalGet n = i.GlobalGet n
indexed index.GlobalSet n = i.GlobalSet n
indexed index.MemorySize n = i.MemorySize n
indexed index.MemoryGrow n = i.MemoryGrow n
indexed index.MemoryFill n = i.MemoryFill n
indexed index.DataDrop n = i.DataDrop n
indexed index.RefFunc n = i.RefFunc n
indexed index.TableGet n = i.TableGet n
indexed index.TableSet n = i.TableSet n
indexed index.TableSize n = i.TableSize n
indexed index.TableGrow n = i.TableGrow n
indexed index.TableFill n = i.TableFill n
indexed index.ElemDrop n = i.ElemDrop n

-- the instruction of two indices, in the order of its fields
abbrev pub paired : PairedName → ℕ → ℕ → Instr
paired pair.CallIndirect ty table = i.CallIndirect ty table
paired pair.MemoryCopy dst src = i.MemoryCopy dst src
paired pair.MemoryInit memory segment = i.MemoryInit memory segment
paired pair.TableCopy dst src = i.TableCopy dst src
paired pair.TableInit table segment = i.TableInit table segment

abbrev pub one_index : Data → Option ℕ
one_index d = one_immediate d >>= whole_32

abbrev pub two_indices : Data → Option (ℕ × ℕ)
two_indices d = do
  both ← two_immediates d
  first ← whole_32 both.0
  second ← whole_32 both.1
  Some (first, second)

-- the instruction of the name, by its immediates: a load or store has the memory, then the offset
abbrev pub straight_by : Data → StraightName → Option Instr
straight_by d (straight.Plain instr) = no_immediate d >>= (λ _. Some instr)
straight_by d (straight.Indexed name) = one_index d >>= (λ n. Some (indexed name n))
straight_by d (straight.Paired name) = two_indices d >>= (λ both. Some (paired name both.0 both.1))
straight_by d (straight.Load op) = two_indices d >>= (λ both. Some (i.Load op both.0 both.1))
straight_by d (straight.Store op) = two_indices d >>= (λ both. Some (i.Store op both.0 both.1))
straight_by d straight.Const32 = one_immediate d >>= signed_32 >>= (λ n. Some (i.Const32 n))
straight_by d straight.Const64 = one_immediate d >>= signed_64 >>= (λ n. Some (i.Const64 n))
straight_by d straight.RefNull = one_immediate d >>= heap_top_of >>= (λ t. Some (i.RefNull t))
