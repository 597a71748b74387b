-- Commands: their conditions, and what each comes to. The commands are this project's own; what they do to objects is
-- that of the wasmtime crate's calls.
use Rattle.std.specs.Prelude.{ℕ, List, [], ◌∷◌, Option, Some, None, Result, Ok, Err, slice_get}
use Rattle.wasm_syntax.specs.declared.declarations.ModuleDecl.{ModuleDecl}
use Rattle.wasm_values.specs.Values.{val_of, val_ref}
use Rattle.wasm_values.specs.declared.externals.Extern.{Extern}
use Rattle.wasm_values.specs.declared.externals.Extern.TheVariants as x
use Rattle.wasm_values.specs.declared.references.Ref.{Ref}
use Rattle.wasm_values.specs.declared.refusals.Refusal.{Refusal}
use Rattle.wasm_values.specs.declared.refusals.Refusal.TheVariants.{NoReply}
use Rattle.wasm_values.specs.declared.values.Val.{Val}
use Rattle.spec_machine.specs.FuelCalls.{get_fuel, fill_fuel, yield_interval, move_deadline}
use Rattle.spec_machine.specs.FunctionCalls.{Called, called}
use Rattle.spec_machine.specs.GlobalCalls.{global_new, global_get, global_set, tag_new}
use Rattle.spec_machine.specs.Growth.{Plan, plan}
use Rattle.spec_machine.specs.InstanceCalls.{get_export}
use Rattle.spec_machine.specs.Machine.{Machine}
use Rattle.spec_machine.specs.MemoryCalls.{memory_new, memory_read, memory_write, memory_size, memory_grow}
use Rattle.spec_machine.specs.Names.{Scope, named_func, named_memory, named_table, named_global, named_instance, named_objects, operand_value, operand_values}
use Rattle.spec_machine.specs.TableCalls.{table_new, table_get, table_set, table_size, table_grow, table_copy, table_fill}
use Rattle.spec_machine.specs.ValueCalls.{func_new}
use Rattle.spec_machine.specs.declared.command.Command.{Command}
use Rattle.spec_machine.specs.declared.command.Command.TheVariants as command
use Rattle.spec_machine.specs.declared.operation.Op.{Op}
use Rattle.spec_machine.specs.declared.operation.Op.TheVariants.{MemoryNew, MemoryRead, MemoryWrite, MemorySize, MemoryGrow, TableNew, TableGet, TableSet, TableSize, TableGrow, TableCopy, TableFill, GlobalNew, GlobalGet, GlobalSet, TagNew, GetExport, GetFuel, SetFuel, YieldInterval, SetEpochDeadline, Call}
use Rattle.spec_machine.specs.declared.reply.Reply.{Reply}
use Rattle.spec_machine.specs.declared.reply.Reply.TheVariants.{Done, Number, Bytes, Values, Object, Absent}

-- what a command comes to once its conditions were looked at
pub data Row : Type 0 where
  Refuse : Refusal → Row
  -- an act, with the store that it leaves and the reply
  Act : Machine → Reply → Row
  -- an act that is to know the epoch first, with the store that it leaves by the reading
  ActAt : (ℕ → Machine) → Reply → Row
  -- a growth that is to be decided first
  Grow : Plan Reply → Row
  -- a call of a function
  Invoke : Called → Row
  -- an instantiation of a module over these imports, which has conditions of its own
  Instantiate : ModuleDecl → List Extern → Row

-- the row of a call that reads, of one that changes the store, of one that makes an object, of one that grows, and of
-- one of a function
abbrev pub reads : {A : Type 0} → Machine → (A → Reply) → Result A Refusal → Row
reads m say (Ok a) = Act m (say a)
reads m say (Err why) = Refuse why

abbrev pub changes : Result Machine Refusal → Row
changes (Ok after) = Act after Done
changes (Err why) = Refuse why

abbrev pub makes : {A : Type 0} → (A → Reply) → Result (Machine × A) Refusal → Row
makes say (Ok made) = Act made.0 (say made.1)
makes say (Err why) = Refuse why

abbrev pub grows : {A : Type 0} → (A → Reply) → Result (Plan A) Refusal → Row
grows say (Ok p) = Grow (plan p.range p.growth p.after (say p.gives))
grows say (Err why) = Refuse why

abbrev pub invokes : Result Called Refusal → Row
invokes (Ok c) = Invoke c
invokes (Err why) = Refuse why

-- a name that gives nothing of the needed kind is refused before all else
abbrev pub named : {A : Type 0} → Option A → (A → Row) → Row
named None go = Refuse NoReply
named (Some found) go = go found

-- one value; an element, or that there is none
abbrev pub one_value : Val → Reply
one_value val = Values (val ∷ [])

abbrev pub element_reply : Option Ref → Reply
element_reply None = Absent
element_reply (Some r) = one_value (val_of r)

abbrev pub operation : Machine → Scope → Op → Row
operation m s (MemoryNew ty) = grows (λ h. Object (x.Memory h)) (Ok (memory_new m ty))
operation m s (MemoryRead memory at len) = named (named_memory s memory) (λ h. reads m Bytes (memory_read m h at len))
operation m s (MemoryWrite memory at bytes) = named (named_memory s memory) (λ h. changes (memory_write m h at bytes))
operation m s (MemorySize memory) = named (named_memory s memory) (λ h. reads m Number (memory_size m h))
operation m s (MemoryGrow memory delta) = named (named_memory s memory) (λ h. grows Number (memory_grow m h delta))
operation m s (TableNew ty init) =
    named (operand_value s init) (λ val. grows (λ h. Object (x.Table h)) (table_new m ty (val_ref val)))
operation m s (TableGet table at) = named (named_table s table) (λ h. reads m element_reply (table_get m h at))
operation m s (TableSet table at value) =
    named (named_table s table) (λ h. named (operand_value s value) (λ val. changes (table_set m h at (val_ref val))))
operation m s (TableSize table) = named (named_table s table) (λ h. reads m Number (table_size m h))
operation m s (TableGrow table delta value) =
    named (named_table s table) (λ h. named (operand_value s value) (λ val. grows Number (table_grow m h delta (val_ref val))))
operation m s (TableCopy dst dst_at src src_at len) =
    named (named_table s dst) (λ d. named (named_table s src) (λ e. changes (table_copy m d dst_at e src_at len)))
operation m s (TableFill table at value len) =
    named (named_table s table) (λ h. named (operand_value s value) (λ val. changes (table_fill m h at (val_ref val) len)))
operation m s (GlobalNew ty init) =
    named (operand_value s init) (λ val. makes (λ h. Object (x.Global h)) (global_new m ty val))
operation m s (GlobalGet global) = named (named_global s global) (λ h. reads m one_value (global_get m h))
operation m s (GlobalSet global value) =
    named (named_global s global) (λ h. named (operand_value s value) (λ val. changes (global_set m h val)))
operation m s (TagNew ty) = makes (λ h. Object (x.Tag h)) (tag_new m ty)
operation m s (GetExport instance name) =
    named (named_instance s instance) (λ h. reads m Object (get_export m h name))
operation m s GetFuel = reads m Number (get_fuel m)
operation m s (SetFuel fuel) = changes (fill_fuel m fuel)
operation m s (YieldInterval interval) = changes (yield_interval m interval)
operation m s (SetEpochDeadline ticks) = ActAt (move_deadline m ticks) Done
operation m s (Call func args results) =
    named (named_func s func) (λ h. named (operand_values s args) (λ vals. invokes (called m h vals results)))

-- over the modules of the session; the number of one that is not there is refused as a name is
abbrev pub row : List ModuleDecl → Machine → Scope → Command → Row
row modules m s (command.FuncNew ty body stored) =
    named (named_objects s stored) (λ found. makes (λ h. Object (x.Func h)) (func_new m ty body found))
row modules m s (command.Instantiate number imports) =
    named (named_objects s imports) (λ found. named (slice_get modules number) (λ d. Instantiate d found))
row modules m s (command.Op op) = operation m s op
