-- Worked examples of runs of commands on objects, each by computation.
use Rattle.std.proofs.Common.{◌≡◌, ◌∷◌, [], Some, None, refl}
use Rattle.std.specs.Prelude.{ℤ, List, Option, Ok, Err, true, false, pos, negsuc}
use Rattle.wasm_types.specs.GlobalTypes.{global_parts}
use Rattle.wasm_types.specs.declared.plain.Mutability.TheVariants.{Const, Var}
use Rattle.wasm_types.specs.declared.value_types.ValType.TheVariants as t
use Rattle.wasm_meter.specs.Growths.{memory_growth}
use Rattle.wasm_values.specs.Handles.{func_of}
use Rattle.wasm_values.specs.declared.refusals.Refusal.TheVariants.{NoReply, WrongStore, WrongEngine, ImmutableGlobal, TypeMismatch, MemoryAccessError, GrowFailed, LimiterFault, TurnLimit, Trap, FuelNotConfigured, FuelInterval}
use Rattle.wasm_values.specs.declared.refusals.Trap.TheVariants.{TableOutOfBounds}
use Rattle.wasm_values.specs.declared.values.Val.TheVariants as v
use Rattle.spec_execution.specs.Askings.{Growing, Grown}
use Rattle.spec_execution.specs.Runs.{State, run, run_to, run_to_step}
use Rattle.spec_machine.specs.Machine.{Machine}
use Rattle.spec_machine.specs.declared.command.Command.{Command}
use Rattle.spec_machine.specs.declared.command.Command.TheVariants as command
use Rattle.spec_machine.specs.declared.name.Name.TheVariants as name
use Rattle.spec_machine.specs.declared.name.Operand.TheVariants as operand
use Rattle.spec_machine.specs.declared.operation.Op.TheVariants.{MemoryNew, MemoryRead, MemoryWrite, MemorySize, MemoryGrow, TableNew, TableGet, TableSet, TableSize, TableGrow, TableCopy, TableFill, GlobalNew, GlobalGet, GlobalSet, TagNew, GetFuel, SetFuel, YieldInterval}
use Rattle.spec_machine.specs.declared.reply.Reply.TheVariants.{Done, Number, Bytes, Absent, Refused}
use Rattle.spec_machine.proofs.Samples.{id, other_id, engine, empty, limited, bytes4, externs4, funcs4, nothing, n, ext, a, i32, one, memory, table, global, func, tag, op}
use Rattle.spec_execution.proofs.RunSamples.{with_replies, in_turns, turns_of, beginning, from, replies_of, asked_of}

-- a store whose engine consumes fuel, and which has so much
abbrev with_fuel : ℤ → Machine
with_fuel fuel = record empty { engine = record (engine 9) { consumes_fuel = true }; fuel = fuel }

-- memories: a write is read again, the empty range is there at the end, and a refused write changes nothing
writes_and_reads : replies_of (run [] (from empty) (op (MemoryNew bytes4) ∷ op (MemoryWrite (n 0) 1 (10 ∷ 11 ∷ [])) ∷ op (MemoryRead (n 0) 0 4) ∷ op (MemoryRead (n 0) 4 0) ∷ op (MemoryRead (n 0) 5 0) ∷ op (MemoryWrite (n 0) 3 (1 ∷ 2 ∷ [])) ∷ op (MemoryRead (n 0) 3 1) ∷ [])) ≡ memory 0 ∷ Done ∷ Bytes (0 ∷ 10 ∷ 11 ∷ 0 ∷ []) ∷ Bytes [] ∷ Refused MemoryAccessError ∷ Refused MemoryAccessError ∷ Bytes (0 ∷ []) ∷ []
writes_and_reads = refl

-- growth answers the size before; past the declared maximum it fails; the new bytes are zero
grows_to_the_maximum : replies_of (run [] (from empty) (op (MemoryNew bytes4) ∷ op (MemoryGrow (n 0) 2) ∷ op (MemoryGrow (n 0) 1) ∷ op (MemoryGrow (n 0) 0) ∷ op (MemorySize (n 0)) ∷ op (MemoryRead (n 0) 4 2) ∷ [])) ≡ memory 0 ∷ Number 4 ∷ Refused GrowFailed ∷ Number 6 ∷ Number 6 ∷ Bytes (0 ∷ 0 ∷ []) ∷ []
grows_to_the_maximum = refl

-- a copy gives the source as it was, on overlap too
copies_on_overlap : replies_of (run [] (from empty) (op (TableNew externs4 (a (v.ExternRef None))) ∷ op (TableSet (n 0) 0 (a (ext 10))) ∷ op (TableSet (n 0) 1 (a (ext 11))) ∷ op (TableSet (n 0) 2 (a (ext 12))) ∷ op (TableCopy (n 0) 1 (n 0) 0 3) ∷ op (TableGet (n 0) 0) ∷ op (TableGet (n 0) 1) ∷ op (TableGet (n 0) 2) ∷ op (TableGet (n 0) 3) ∷ [])) ≡ table 0 ∷ Done ∷ Done ∷ Done ∷ Done ∷ one (ext 10) ∷ one (ext 10) ∷ one (ext 11) ∷ one (ext 12) ∷ []
copies_on_overlap = refl

-- of a copy both ranges come before the types
ranges_before_types : replies_of (run [] (from empty) (op (TableNew externs4 (a (v.ExternRef None))) ∷ op (TableNew funcs4 (a (v.FuncRef None))) ∷ op (TableCopy (n 1) 0 (n 0) 5 0) ∷ op (TableCopy (n 1) 0 (n 0) 4 0) ∷ [])) ≡ table 0 ∷ table 1 ∷ Refused (Trap TableOutOfBounds) ∷ Refused TypeMismatch ∷ []
ranges_before_types = refl

-- of a fill the type comes before the range
type_before_range : replies_of (run [] (from empty) (op (TableNew externs4 (a (ext 7))) ∷ op (TableFill (n 0) 3 (a (v.AnyRef None)) 9) ∷ op (TableFill (n 0) 3 (a (ext 1)) 9) ∷ op (TableFill (n 0) 3 (a (i32 1)) 1) ∷ op (TableGet (n 0) 3) ∷ op (TableGet (n 0) 4) ∷ op (TableSet (n 0) 4 (a (ext 1))) ∷ [])) ≡ table 0 ∷ Refused TypeMismatch ∷ Refused (Trap TableOutOfBounds) ∷ Refused TypeMismatch ∷ one (ext 7) ∷ Absent ∷ Refused (Trap TableOutOfBounds) ∷ []
type_before_range = refl

-- new elements are the given one
grows_a_table : replies_of (run [] (from empty) (op (TableNew externs4 (a (v.ExternRef None))) ∷ op (TableGrow (n 0) 2 (a (ext 5))) ∷ op (TableGet (n 0) 3) ∷ op (TableGet (n 0) 5) ∷ op (TableSize (n 0)) ∷ op (TableGrow (n 0) 1 (a (v.FuncRef None))) ∷ op (TableGrow (n 0) 4294967290 (a (ext 5))) ∷ [])) ≡ table 0 ∷ Number 4 ∷ one (v.ExternRef None) ∷ one (ext 5) ∷ Number 6 ∷ Refused TypeMismatch ∷ Refused GrowFailed ∷ []
grows_a_table = refl

sets_globals : replies_of (run [] (from empty) (op (GlobalNew (global_parts t.I32 Var) (a (i32 3))) ∷ op (GlobalSet (n 0) (a (v.I32 (negsuc 4)))) ∷ op (GlobalGet (n 0)) ∷ op (GlobalSet (n 0) (a (v.I64 (pos 1)))) ∷ op (GlobalNew (global_parts t.I32 Const) (a (i32 9))) ∷ op (GlobalSet (n 4) (a (v.I64 (pos 1)))) ∷ op (GlobalNew (global_parts t.I64 Const) (a (i32 9))) ∷ [])) ≡ global 0 ∷ Done ∷ one (v.I32 (negsuc 4)) ∷ Refused TypeMismatch ∷ global 1 ∷ Refused ImmutableGlobal ∷ Refused TypeMismatch ∷ []
sets_globals = refl

-- a function stands in a table under its name, is read again as a value, and that value names it
names_functions : replies_of (run [] (from empty) (command.FuncNew (nothing 1) 0 [] ∷ op (TableNew funcs4 (operand.Named (n 0))) ∷ op (TableGet (n 1) 2) ∷ op (TableSet (n 1) 0 (operand.Named (name.Value 2 0))) ∷ command.FuncNew (nothing 1) 1 (name.Value 2 0 ∷ n 1 ∷ []) ∷ op (TagNew (nothing 1)) ∷ [])) ≡ func 0 ∷ table 0 ∷ one (v.FuncRef (Some (func_of id 0))) ∷ Done ∷ func 1 ∷ tag 0 ∷ []
names_functions = refl

-- a type of another engine
refuses_engines : replies_of (run [] (from empty) (command.FuncNew (nothing 2) 0 [] ∷ op (TagNew (nothing 2)) ∷ [])) ≡ Refused WrongEngine ∷ Refused WrongEngine ∷ []
refuses_engines = refl

-- names of a later reply, of one of another kind, of a value that is not there, and of what no outermost command has
refuses_names : replies_of (run [] (from empty) (op (MemorySize (n 0)) ∷ op (MemoryNew bytes4) ∷ op (TableSize (n 1)) ∷ op (MemorySize (name.Value 1 0)) ∷ op (MemorySize (name.Arg 0)) ∷ op (MemorySize (name.Stored 0)) ∷ op (MemorySize name.Caller) ∷ op (GlobalNew (global_parts t.I32 Var) (operand.Named (n 1))) ∷ [])) ≡ Refused NoReply ∷ memory 0 ∷ Refused NoReply ∷ Refused NoReply ∷ Refused NoReply ∷ Refused NoReply ∷ Refused NoReply ∷ Refused NoReply ∷ []
refuses_names = refl

-- a null function, named where an object is needed, is none; where a value is needed, it is one
names_nulls : replies_of (run [] (from empty) (op (TableNew funcs4 (a (v.FuncRef None))) ∷ op (TableGet (n 0) 0) ∷ op (TableSet (n 0) 1 (operand.Named (name.Value 1 0))) ∷ command.FuncNew (nothing 1) 0 (name.Value 1 0 ∷ []) ∷ [])) ≡ table 0 ∷ one (v.FuncRef None) ∷ Done ∷ Refused NoReply ∷ []
names_nulls = refl

-- a function of another store, or one that is not there; a name that gives nothing comes before it
refuses_other_stores : replies_of (run [] (from empty) (op (TableNew funcs4 (a (v.FuncRef (Some (func_of other_id 0))))) ∷ command.FuncNew (nothing 1) 0 [] ∷ op (TableNew funcs4 (a (v.FuncRef (Some (func_of other_id 0))))) ∷ op (TableNew funcs4 (a (v.FuncRef (Some (func_of id 1))))) ∷ op (TableNew funcs4 (a (v.FuncRef (Some (func_of id 0))))) ∷ op (TableSet (n 9) 0 (a (v.FuncRef (Some (func_of other_id 0))))) ∷ [])) ≡ Refused WrongStore ∷ func 0 ∷ Refused WrongStore ∷ Refused WrongStore ∷ table 0 ∷ Refused NoReply ∷ []
refuses_other_stores = refl

-- a limiter is asked from the present size to the wanted one, in bytes, before the maximum is looked at; creation too
abbrev asking : List Command
asking = op (MemoryNew bytes4) ∷ op (MemoryGrow (n 0) 1) ∷ op (MemoryGrow (n 0) 2) ∷ op (MemoryGrow (n 0) 3) ∷ op (MemorySize (n 0)) ∷ []

abbrev asked : Option State
asked = run [] (beginning (limited 2) (Grown (Ok true) ∷ Grown (Ok false) ∷ Grown (Err (record {})) ∷ Grown (Ok true) ∷ [])) asking

asks_a_limiter : replies_of asked ≡ memory 0 ∷ Refused GrowFailed ∷ Refused LimiterFault ∷ Refused GrowFailed ∷ Number 4 ∷ []
asks_a_limiter = refl

asks_in_bytes : asked_of asked ≡ Growing (memory_growth 0 4 (Some 6)) ∷ Growing (memory_growth 4 5 (Some 6)) ∷ Growing (memory_growth 4 6 (Some 6)) ∷ Growing (memory_growth 4 7 (Some 6)) ∷ []
asks_in_bytes = refl

-- without an answer a command waits; with one turn the act after a question is one too many; nothing is asked for nothing
waits : run [] (beginning (limited 2) []) (op (MemoryNew bytes4) ∷ []) ≡ None
waits = refl

limits_turns : replies_of (run [] (beginning (limited 1) (Grown (Ok true) ∷ [])) (op (MemoryNew bytes4) ∷ op (TagNew (nothing 1)) ∷ [])) ≡ Refused TurnLimit ∷ tag 0 ∷ []
limits_turns = refl

-- ---- turns, and stops

-- the turns of the last command: an act is one, a question one more, and a refusal none
acts_in_a_turn : turns_of (run [] (from empty) (op (MemoryNew bytes4) ∷ [])) ≡ Some 1
acts_in_a_turn = refl

asks_in_a_turn_more :
    turns_of (run [] (beginning (limited 2) (Grown (Ok true) ∷ [])) (op (MemoryNew bytes4) ∷ [])) ≡ Some 2
asks_in_a_turn_more = refl

is_denied_in_a_turn :
    turns_of (run [] (beginning (limited 2) (Grown (Ok false) ∷ [])) (op (MemoryNew bytes4) ∷ [])) ≡ Some 1
is_denied_in_a_turn = refl

refuses_in_no_turn : turns_of (run [] (from empty) (op (MemoryNew bytes4) ∷ op (MemoryRead (n 1) 0 1) ∷ [])) ≡ Some 0
refuses_in_no_turn = refl

-- a stop before the act leaves the store, and one after it has the act; neither has its reply
abbrev writing : List Command
writing = op (MemoryNew bytes4) ∷ op (MemoryWrite (n 0) 0 (9 ∷ [])) ∷ []

stops_before_the_act :
    run_to [] (from empty) writing 1 0 ≡ in_turns 0 (run [] (from empty) (op (MemoryNew bytes4) ∷ []))
stops_before_the_act = refl

stops_behind_the_act : run_to [] (from empty) writing 1 1 ≡ with_replies (memory 0 ∷ []) (run [] (from empty) writing)
stops_behind_the_act = refl

-- a command of one turn leaves turns where it has more, and is not stopped by want of one; nor is there a stop where no
-- command is
is_not_stopped : run_to [] (from empty) (op (MemoryNew bytes4) ∷ []) 0 999 ≡ None
is_not_stopped = refl

stops_no_command : run_to [] (from empty) (op (MemoryNew bytes4) ∷ []) 1 0 ≡ None
stops_no_command = refl

-- what acts asks no step
asks_no_step : run_to_step [] (from empty) (op (MemoryNew bytes4) ∷ []) 0 0 ≡ None
asks_no_step = refl

-- fuel: what is filled in is told, an interval must have a length, and it changes nothing of what is told
fills_and_tells : replies_of (run [] (from (with_fuel (negsuc 4))) (op GetFuel ∷ op (SetFuel 12) ∷ op GetFuel ∷ op (YieldInterval (Some 0)) ∷ op (YieldInterval (Some 5)) ∷ op GetFuel ∷ op (YieldInterval None) ∷ op GetFuel ∷ [])) ≡ Number 0 ∷ Done ∷ Number 12 ∷ Refused FuelInterval ∷ Done ∷ Number 12 ∷ Done ∷ Number 12 ∷ []
fills_and_tells = refl

-- without fuel in the engine there is none to tell
has_no_fuel : replies_of (run [] (from empty) (op GetFuel ∷ op (SetFuel 1) ∷ op (YieldInterval (Some 0)) ∷ [])) ≡ Refused FuelNotConfigured ∷ Refused FuelNotConfigured ∷ Refused FuelNotConfigured ∷ []
has_no_fuel = refl
