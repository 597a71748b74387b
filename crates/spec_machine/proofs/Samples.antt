-- A store, types and commands for the worked examples.
use Rattle.std.proofs.Common.{ℕ, [], ◌∷◌, Some, None, arith}
use Rattle.std.specs.Prelude.{true, false, pos}
use Rattle.wasm_types.specs.FunctionParts.{ref_type}
use Rattle.wasm_types.specs.MemoryTypes.{MemoryParts, memory_parts}
use Rattle.wasm_types.specs.Signatures.{Signature}
use Rattle.wasm_types.specs.Signatures as sig
use Rattle.wasm_types.specs.TableTypes.{TableParts, table_parts}
use Rattle.wasm_types.specs.declared.plain.Finality.TheVariants.{Final}
use Rattle.wasm_types.specs.declared.value_types.HeapType.TheVariants as h
use Rattle.wasm_values.specs.Handles.{func_of, global_of, memory_of, table_of, tag_of}
use Rattle.wasm_values.specs.declared.externals.Extern.TheVariants as x
use Rattle.wasm_values.specs.declared.store_id.StoreId.{StoreId}
use Rattle.wasm_values.specs.declared.values.Val.{Val}
use Rattle.wasm_values.specs.declared.values.Val.TheVariants as v
use Rattle.spec_machine.specs.Machine.{EngineParts, Machine, new_machine}
use Rattle.spec_machine.specs.declared.command.Command.{Command}
use Rattle.spec_machine.specs.declared.command.Command.TheVariants as command
use Rattle.spec_machine.specs.declared.name.Name.{Name}
use Rattle.spec_machine.specs.declared.name.Name.TheVariants as name
use Rattle.spec_machine.specs.declared.name.Operand.{Operand}
use Rattle.spec_machine.specs.declared.name.Operand.TheVariants as operand
use Rattle.spec_machine.specs.declared.operation.Op.{Op}
use Rattle.spec_machine.specs.declared.reply.Reply.{Reply}
use Rattle.spec_machine.specs.declared.reply.Reply.TheVariants.{Object, Values}

-- a store of the id of this number
abbrev pub id : StoreId
id = record { raw = record { value = 1; ok = omega arith }; within = omega arith }

abbrev pub other_id : StoreId
other_id = record { raw = record { value = 2; ok = omega arith }; within = omega arith }

abbrev pub engine : ℕ → EngineParts
engine turns = record { number = 1; consumes_fuel = false; reads_epochs = false; frames = 1024; turns = turns }

-- a store without objects, and one whose limiter is asked
abbrev pub empty : Machine
empty = new_machine id (engine 10000000)

abbrev pub limited : ℕ → Machine
limited turns = record (new_machine id (engine turns)) { is_limited = true }

-- memories of four pages of one byte, and of at most six
abbrev pub bytes4 : MemoryParts
bytes4 = memory_parts 4 (Some 6) 0

-- tables of data of the host, and of functions
abbrev pub externs4 : TableParts
externs4 = table_parts (ref_type true h.Extern) 4 None

abbrev pub funcs4 : TableParts
funcs4 = table_parts (ref_type true h.Func) 4 None

-- a function type without parameters and results
abbrev pub nothing : ℕ → Signature
nothing engine = sig.signature engine Final sig.root sig.end sig.end

abbrev pub n : ℕ → Name
n place = name.Reply place

-- operands and values
abbrev pub ext : ℕ → Val
ext number = v.ExternRef (Some (record { 0 = number }))

abbrev pub a : Val → Operand
a val = operand.Val val

abbrev pub i32 : ℕ → Val
i32 number = v.I32 (pos number)

abbrev pub one : Val → Reply
one val = Values (val ∷ [])

-- replies that are objects of the store
abbrev pub memory : ℕ → Reply
memory index = Object (x.Memory (memory_of id index))

abbrev pub table : ℕ → Reply
table index = Object (x.Table (table_of id index))

abbrev pub global : ℕ → Reply
global index = Object (x.Global (global_of id index))

abbrev pub func : ℕ → Reply
func index = Object (x.Func (func_of id index))

abbrev pub tag : ℕ → Reply
tag index = Object (x.Tag (tag_of id index))

abbrev pub op : Op → Command
op o = command.Op o
