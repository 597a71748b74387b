-- Worked examples of instantiation, each by computation.
use Rattle.std.proofs.Common.{◌≡◌, ◌∷◌, [], Some, None, refl, arith}
use Rattle.std.specs.Prelude.{ℕ, ◌^◌, List, Option, Ok, Err, true, false, map, pos, negsuc, length, option_map, slice_get}
use Rattle.wasm_types.specs.FunctionParts.{ref_type}
use Rattle.wasm_types.specs.GlobalTypes.{global_parts}
use Rattle.wasm_types.specs.MemoryTypes.{MemoryParts, memory_parts}
use Rattle.wasm_types.specs.TableTypes.{TableParts, table_parts}
use Rattle.wasm_types.specs.declared.extern_type.ExternType.{ExternType}
use Rattle.wasm_types.specs.declared.extern_type.ExternType.TheVariants as ty
use Rattle.wasm_types.specs.declared.plain.HeapTopType.TheVariants as top
use Rattle.wasm_types.specs.declared.plain.Mutability.TheVariants.{Const, Var}
use Rattle.wasm_types.specs.declared.plain.Resource.TheVariants as resource
use Rattle.wasm_types.specs.declared.value_types.HeapType.TheVariants as h
use Rattle.wasm_types.specs.declared.value_types.ValType.{ValType}
use Rattle.wasm_types.specs.declared.value_types.ValType.TheVariants as t
use Rattle.wasm_syntax.specs.FirstBroken.{broken, first_broken}
use Rattle.wasm_syntax.specs.declared.accesses.LoadOp.TheVariants as l
use Rattle.wasm_syntax.specs.declared.constants.ConstExpr.{ConstExpr}
use Rattle.wasm_syntax.specs.declared.constants.ConstExpr.TheVariants as c
use Rattle.wasm_syntax.specs.declared.declarations.GlobalDecl.{GlobalDecl}
use Rattle.wasm_syntax.specs.declared.declarations.ImportDecl.{ImportDecl}
use Rattle.wasm_syntax.specs.declared.declarations.ModuleDecl.{ModuleDecl}
use Rattle.wasm_syntax.specs.declared.declarations.TableDecl.{TableDecl}
use Rattle.wasm_syntax.specs.declared.entities.EntityIndex.TheVariants as entity
use Rattle.wasm_syntax.specs.declared.instr.Instr.{Instr}
use Rattle.wasm_syntax.specs.declared.instr.Instr.TheVariants as i
use Rattle.wasm_syntax.specs.declared.operators.BinOp.TheVariants as b
use Rattle.wasm_syntax.specs.declared.segments.DataDecl.{DataDecl}
use Rattle.wasm_syntax.specs.declared.segments.DataMode.{DataMode}
use Rattle.wasm_syntax.specs.declared.segments.DataMode.TheVariants as data_mode
use Rattle.wasm_syntax.specs.declared.segments.ElemDecl.{ElemDecl}
use Rattle.wasm_syntax.specs.declared.segments.ElemMode.{ElemMode}
use Rattle.wasm_syntax.specs.declared.segments.ElemMode.TheVariants as elem_mode
use Rattle.wasm_meter.specs.Growths.{memory_growth, table_growth}
use Rattle.wasm_meter.specs.declared.call_hook.CallHook.TheVariants.{CallingWasm, ReturningFromWasm, CallingHost, ReturningFromHost}
use Rattle.wasm_values.specs.Handles.{func_of, global_of, table_of, memory_of, tag_of}
use Rattle.wasm_values.specs.declared.externals.Extern.{Extern}
use Rattle.wasm_values.specs.declared.externals.Extern.TheVariants as x
use Rattle.wasm_values.specs.declared.refusals.Refusal.TheVariants.{WrongStore, WrongEngine, ImportCount, ImportType, ResourceLimit, GrowFailed, LimiterFault, HookFault}
use Rattle.wasm_values.specs.declared.refusals.Trap.TheVariants as trap
use Rattle.wasm_values.specs.declared.store_id.StoreId.{StoreId}
use Rattle.wasm_objects.specs.Globals.{global}
use Rattle.wasm_objects.specs.Tables.{table}
use Rattle.wasm_objects.specs.declared.raw.RawRef.TheVariants as r
use Rattle.wasm_objects.specs.declared.raw.RawVal.TheVariants as w
use Rattle.spec_machine.specs.Machine.{Machine, guest, host, InstanceParts, Numbers, numbers, new_machine}
use Rattle.spec_execution.specs.Askings.{Caller, Answer, Having, Has, Passing, Passed, Growing, Grown, Stepping}
use Rattle.spec_execution.specs.Bodies.{exec, unfolded, step}
use Rattle.spec_machine.specs.InstanceCalls.{object}
use Rattle.spec_execution.specs.Outcomes.{Outcome, Trapped, Refused, Stopped, Waiting}
use Rattle.spec_execution.specs.declared.answer.Answer.TheVariants.{Return}
use Rattle.spec_execution.specs.declared.answer.Event.TheVariants.{Start}
use Rattle.spec_execution.proofs.Samples.{asked, id, engine, quiet, answer, decl, straight, pages, with_frames, with_fuel, world, call, instantiated, ending, left, bytes_left, elements_left, globals_left, Gives, Ends, i32, says, seen}

-- ---- stores and modules

abbrev empty : Machine
empty = new_machine id engine

abbrev bare : ModuleDecl
bare = decl []

-- at least so many pages of one byte
abbrev bytes : ℕ → MemoryParts
bytes least = memory_parts least None 0

-- at least so many functions
abbrev functions : ℕ → TableParts
functions least = table_parts (ref_type true h.Func) least None

-- of null at the start
abbrev nulls : ℕ → TableDecl
nulls least = record { ty = functions least; init = c.RefNull top.Func }

abbrev import : ExternType → ImportDecl
import wanted = record { «module» = []; name = []; ty = wanted }

abbrev importing : List ExternType → ModuleDecl
importing wanted = record bare { imports = map import wanted }

abbrev defining : List MemoryParts → List TableDecl → ModuleDecl
defining memories tables = record bare { memories = memories; tables = tables }

-- ---- what was made

abbrev counts_left : Outcome → Numbers
counts_left o = (left o).machine.counts

-- the number of instances, and the first of them
abbrev instances_left : Outcome → ℕ
instances_left o = length (left o).machine.instances

abbrev first_left : {A : Type 0} → (InstanceParts → A) → Outcome → Option A
first_left part o = option_map part (slice_get (left o).machine.instances 0)

-- ---- the checks

-- a store with a memory of two pages of at most three
abbrev small : Machine
small = record empty { memories = pages 3 (0 ∷ 0 ∷ []) ∷ [] }

abbrev memory : Extern
memory = x.Memory (memory_of id 0)

-- it was made of one page and has grown: its present size is what counts
fits_by_the_present_size :
    ending (instantiated small 9 [] (importing (ty.Memory (bytes 2) ∷ [])) (memory ∷ [])) ≡ Gives []
unfolding exec unfolded step
fits_by_the_present_size = refl

refuses_a_smaller_memory :
    ending (instantiated small 9 [] (importing (ty.Memory (bytes 3) ∷ [])) (memory ∷ []))
    ≡ Ends (Refused (ImportType 0))
unfolding exec unfolded step
refuses_a_smaller_memory = refl

refuses_another_number :
    ending (instantiated small 9 [] (importing (ty.Memory (bytes 3) ∷ [])) []) ≡ Ends (Refused ImportCount)
unfolding exec unfolded step
refuses_another_number = refl

-- the first import that does not match is told: here one that is too small, before one whose maximum is above the
-- declared one, and one of another kind
abbrev several : ModuleDecl
several =
    importing (ty.Memory (bytes 1) ∷ ty.Memory (bytes 3) ∷ ty.Memory (memory_parts 1 (Some 2) 0)
    ∷ ty.Table (functions 0) ∷ [])

tells_the_first :
    ending (instantiated small 9 [] several (memory ∷ memory ∷ memory ∷ memory ∷ [])) ≡ Ends (Refused (ImportType 1))
unfolding exec unfolded step
tells_the_first = refl

-- objects of another store, and those that are not there, come before all else
abbrev other : StoreId
other = record { raw = record { value = 2; ok = omega arith }; within = omega arith }

abbrev foreign : ModuleDecl
foreign = record several { engine = record { 0 = 2 }; types = [] }

refuses_another_store :
    ending (instantiated small 9 [] foreign (x.Memory (memory_of other 0) ∷ [])) ≡ Ends (Refused WrongStore)
unfolding exec unfolded step
refuses_another_store = refl

refuses_what_is_not_there :
    ending (instantiated small 9 [] foreign (x.Memory (memory_of id 1) ∷ [])) ≡ Ends (Refused WrongStore)
unfolding exec unfolded step
refuses_what_is_not_there = refl

-- a module of another engine comes before the number of imports
refuses_another_engine : ending (instantiated small 9 [] foreign (memory ∷ [])) ≡ Ends (Refused WrongEngine)
unfolding exec unfolded step
refuses_another_engine = refl

-- what a check finds changes nothing
changes_nothing : left (instantiated small 9 [] several (memory ∷ [])) ≡ world small 9 []
unfolding exec unfolded step
changes_nothing = refl

-- ---- the counts

-- objects that the host made do not count, nor does an import
counts_the_instance_alone :
    counts_left (instantiated small 9 [] (importing (ty.Memory (bytes 2) ∷ [])) (memory ∷ [])) ≡ numbers 1 0 0
unfolding exec unfolded step
counts_the_instance_alone = refl

-- a limiter that allows one instance and no memory
abbrev narrow : Machine
narrow = record empty { limits = numbers 1 0 10000; is_limited = true }

abbrev too_many : Outcome
too_many = instantiated narrow 9 [] (defining (bytes 0 ∷ []) []) []

limits_memories : ending too_many ≡ Ends (Refused (ResourceLimit resource.Memory))
unfolding exec unfolded step
limits_memories = refl

-- the count of instances was raised before, and so none is left
keeps_the_count : left too_many ≡ world (record narrow { counts = numbers 1 0 0 }) 9 []
unfolding exec unfolded step
keeps_the_count = refl

limits_instances :
    ending (instantiated (left too_many).machine 9 [] bare []) ≡ Ends (Refused (ResourceLimit resource.Instance))
unfolding exec unfolded step
limits_instances = refl

-- each defined memory and table is counted, memories before tables
limits_two_memories :
    ending (instantiated (record empty { limits = numbers 9 1 9 }) 9 [] (defining (bytes 0 ∷ bytes 0 ∷ []) []) [])
    ≡ Ends (Refused (ResourceLimit resource.Memory))
unfolding exec unfolded step
limits_two_memories = refl

abbrev too_many_tables : Outcome
too_many_tables =
    instantiated (record empty { limits = numbers 9 1 1 }) 9 [] (defining (bytes 0 ∷ []) (nulls 0 ∷ nulls 0 ∷ [])) []

limits_tables : ending too_many_tables ≡ Ends (Refused (ResourceLimit resource.Table))
unfolding exec unfolded step
limits_tables = refl

keeps_the_counts_before : counts_left too_many_tables ≡ numbers 1 1 0
unfolding exec unfolded step
keeps_the_counts_before = refl

-- ---- the questions

abbrev limited : Machine
limited = record empty { is_limited = true }

-- a memory of at least two pages and at most five, and a table of at least three elements
abbrev sized : ModuleDecl
sized = defining (memory_parts 2 (Some 5) 0 ∷ []) (nulls 3 ∷ [])

abbrev asking : List Answer → Outcome
asking answers = instantiated limited 9 answers sized []

abbrev granted : Outcome
granted = asking (Grown (Ok true) ∷ Grown (Ok true) ∷ [])

-- the memory is asked for before the table, each from nothing, in a turn of its own
asks_for_each :
    asked granted ≡ Growing (memory_growth 0 2 (Some 5)) ∷ Growing (table_growth 0 3 None) ∷ []
unfolding exec unfolded step
asks_for_each = refl

takes_three_turns : (left granted).turns ≡ 6
unfolding exec unfolded step
takes_three_turns = refl

begins_with_zeros : bytes_left granted ≡ (0 ∷ 0 ∷ []) ∷ []
unfolding exec unfolded step
begins_with_zeros = refl

begins_with_nulls : elements_left granted ≡ (r.Null ∷ r.Null ∷ r.Null ∷ []) ∷ []
unfolding exec unfolded step
begins_with_nulls = refl

-- a refusal leaves the counts raised and makes nothing
is_denied : ending (asking (Grown (Ok false) ∷ [])) ≡ Ends (Refused GrowFailed)
unfolding exec unfolded step
is_denied = refl

keeps_the_counts_of_what_was_denied :
    left (asking (Grown (Ok false) ∷ []))
    ≡ record (world (record limited { counts = numbers 1 1 1 }) 8 []) {
      heard = (Growing (memory_growth 0 2 (Some 5)), Grown (Ok false)) ∷ [];
    }
unfolding exec unfolded step
keeps_the_counts_of_what_was_denied = refl

is_denied_a_table : ending (asking (Grown (Ok true) ∷ Grown (Ok false) ∷ [])) ≡ Ends (Refused GrowFailed)
unfolding exec unfolded step
is_denied_a_table = refl

makes_no_memory : bytes_left (asking (Grown (Ok true) ∷ Grown (Ok false) ∷ [])) ≡ []
unfolding exec unfolded step
makes_no_memory = refl

ends_by_a_failing_limiter : ending (asking (Grown (Err (record {})) ∷ [])) ≡ Ends (Refused LimiterFault)
unfolding exec unfolded step
ends_by_a_failing_limiter = refl

waits_for_an_answer :
    ending (asking (Grown (Ok true) ∷ [])) ≡ Ends (Waiting (Growing (table_growth 0 3 None)))
unfolding exec unfolded step
waits_for_an_answer = refl

-- a memory is asked for in bytes: here are pages of 64 KiB
asks_in_bytes :
    asked (instantiated limited 9 (Grown (Ok false) ∷ []) (defining (memory_parts 2 (Some 5) 16 ∷ []) []) [])
    ≡ Growing (memory_growth 0 131072 (Some 327680)) ∷ []
unfolding exec unfolded step
asks_in_bytes = refl

-- nothing is asked for a minimum of nothing, nor without a limiter
asks_for_nothing : asked (instantiated limited 9 [] (defining (bytes 0 ∷ []) (nulls 0 ∷ [])) []) ≡ []
unfolding exec unfolded step
asks_for_nothing = refl

asks_no_limiter : asked (instantiated empty 9 [] sized []) ≡ []
unfolding exec unfolded step
asks_no_limiter = refl

-- nor past the range of indices, where it fails: there are at most 2^32 - 1 pages, and elements
fails_past_the_pages :
    ending (instantiated limited 9 [] (defining (bytes (2 ^ 32) ∷ []) []) []) ≡ Ends (Refused GrowFailed)
unfolding exec unfolded step
fails_past_the_pages = refl

fails_past_the_elements :
    ending (instantiated limited 9 [] (defining [] (nulls (2 ^ 32) ∷ [])) []) ≡ Ends (Refused GrowFailed)
unfolding exec unfolded step
fails_past_the_elements = refl

-- ---- turns

-- the instance takes one turn; without it the counts are raised, and nothing else is done
takes_a_turn : (left (instantiated empty 9 [] sized [])).turns ≡ 8
unfolding exec unfolded step
takes_a_turn = refl

stops_before_the_instance : ending (instantiated empty 0 [] sized []) ≡ Ends Stopped
unfolding exec unfolded step
stops_before_the_instance = refl

raises_the_counts : left (instantiated empty 0 [] sized []) ≡ world (record empty { counts = numbers 1 1 1 }) 0 []
unfolding exec unfolded step
raises_the_counts = refl

needs_one_turn : ending (instantiated empty 1 [] sized []) ≡ Gives []
unfolding exec unfolded step
needs_one_turn = refl

-- a question takes it first
abbrev asked_once : Outcome
asked_once = instantiated limited 1 (Grown (Ok true) ∷ []) (defining (bytes 2 ∷ []) []) []

stops_behind_a_question : ending asked_once ≡ Ends Stopped
unfolding exec unfolded step
stops_behind_a_question = refl

makes_nothing_behind_a_question : instances_left asked_once ≡ 0
unfolding exec unfolded step
makes_nothing_behind_a_question = refl

-- ---- the objects

-- a store with two host functions, a table, a memory, two globals and a tag
abbrev full : Machine
full = record empty {
  memories = pages 3 (0 ∷ 0 ∷ []) ∷ [];
  tables = table (functions 1) (r.Func 0 ∷ []) ∷ [];
  globals = global (global_parts t.I64 Var) (w.I64 (pos 9)) ∷ global (global_parts t.I32 Const) (i32 5) ∷ [];
  tags = quiet ∷ [];
  functions = host quiet 0 [] ∷ host answer 1 [] ∷ [];
}

abbrev start_value : ValType → ConstExpr → GlobalDecl
start_value content init = record { ty = global_parts content Const; init = init }

abbrev function_ref : ValType
function_ref = t.Ref (ref_type true h.Func)

-- a module that imports the second function and the second global of that store, and defines an object of each kind
abbrev mixed : ModuleDecl
mixed = record (decl (straight 0 [] ∷ [])) {
  imports = import (ty.Func answer) ∷ import (ty.Global (global_parts t.I32 Const)) ∷ [];
  tables = record { ty = functions 1; init = c.RefFunc 1 } ∷ [];
  memories = bytes 1 ∷ [];
  globals = start_value t.I32 (c.GlobalGet 0) ∷ start_value t.I64 (c.I64 (pos 7)) ∷ start_value t.I64 (c.GlobalGet 2)
      ∷ start_value function_ref (c.RefFunc 0) ∷ [];
  tags = 0 ∷ [];
  exports = record { name = 97 ∷ []; entity = entity.Func 1 } ∷ record { name = 98 ∷ []; entity = entity.Func 0 }
      ∷ record { name = 99 ∷ []; entity = entity.Global 4 } ∷ record { name = 100 ∷ []; entity = entity.Table 0 }
      ∷ record { name = 101 ∷ []; entity = entity.Memory 0 } ∷ record { name = 102 ∷ []; entity = entity.Tag 0 } ∷ [];
}

abbrev made : Outcome
made = instantiated full 9 [] mixed (x.Func (func_of id 1) ∷ x.Global (global_of id 1) ∷ [])

-- in each index space what is imported stands before what is defined, by its number in the store
names_its_objects :
    first_left (λ i. i.functions ∷ i.tables ∷ i.memories ∷ i.globals ∷ i.tags ∷ []) made
    ≡ Some ((1 ∷ 2 ∷ []) ∷ (1 ∷ []) ∷ (1 ∷ []) ∷ (1 ∷ 2 ∷ 3 ∷ 4 ∷ 5 ∷ []) ∷ (1 ∷ []) ∷ [])
unfolding exec unfolded step
names_its_objects = refl

abbrev objects : Machine → InstanceParts → List (Option Extern)
objects m i = map (λ e. object m i e.entity) i.decl.exports

exports_its_objects :
    first_left (objects (left made).machine) made
    ≡ Some (Some (x.Func (func_of id 2)) ∷ Some (x.Func (func_of id 1)) ∷ Some (x.Global (global_of id 5))
    ∷ Some (x.Table (table_of id 1)) ∷ Some (x.Memory (memory_of id 1)) ∷ Some (x.Tag (tag_of id 1)) ∷ [])
unfolding exec unfolded step
exports_its_objects = refl

-- the defined function is the first of the first instance
appends_its_function : (left made).machine.functions ≡ host quiet 0 [] ∷ host answer 1 [] ∷ guest 0 0 ∷ []
unfolding exec unfolded step
appends_its_function = refl

-- a global begins with the value of an imported one, a number, the value of a global before it, and a function
evaluates_globals_in_order :
    globals_left made
    ≡ w.I64 (pos 9) ∷ i32 5 ∷ i32 5 ∷ w.I64 (pos 7) ∷ w.I64 (pos 7) ∷ w.Reference (r.Func 1) ∷ []
unfolding exec unfolded step
evaluates_globals_in_order = refl

-- a table begins with one reference in each place
fills_tables : elements_left made ≡ (r.Func 0 ∷ []) ∷ (r.Func 2 ∷ []) ∷ []
unfolding exec unfolded step
fills_tables = refl

-- ---- segments

abbrev at : ℕ → ConstExpr
at n = c.I32 (pos n)

-- references to functions, under their indices, for a table
abbrev references : ElemMode → List ℕ → ElemDecl
references mode indices = record { ty = ref_type true h.Func; mode = mode; items = map c.RefFunc indices }

abbrev data_of : DataMode → List ℕ → DataDecl
data_of mode bytes = record { mode = mode; bytes = bytes }

-- an imported table of two functions, and a second segment that passes its end
abbrev passing : ModuleDecl
passing = record (decl (straight 1 (i.Const32 (pos 0) ∷ i.Load l.I32Load8U 0 0 ∷ []) ∷ [])) {
  imports = import (ty.Table (functions 2)) ∷ [];
  memories = bytes 1 ∷ [];
  elements = references (elem_mode.Active 0 (at 0)) (0 ∷ []) ∷ references (elem_mode.Active 0 (at 5)) (0 ∷ [])
      ∷ references (elem_mode.Active 0 (at 1)) (0 ∷ []) ∷ references elem_mode.Declared (0 ∷ []) ∷ [];
  datas = data_of (data_mode.Active 0 (at 0)) (255 ∷ []) ∷ [];
}

abbrev with_table : Machine
with_table = record empty { tables = table (functions 2) (r.Null ∷ r.Null ∷ []) ∷ [] }

abbrev passed : Outcome
passed = instantiated with_table 9 [] passing (x.Table (table_of id 0) ∷ [])

traps_past_the_table : ending passed ≡ Ends (Trapped trap.TableOutOfBounds)
unfolding exec unfolded step
traps_past_the_table = refl

-- what the first segment wrote stays
keeps_the_first_segment : elements_left passed ≡ (r.Func 0 ∷ r.Null ∷ []) ∷ []
unfolding exec unfolded step
keeps_the_first_segment = refl

-- the segments from the second one on are whole, and the data segments were not reached
keeps_later_segments :
    first_left (λ i. i.elements) passed ≡ Some ([] ∷ (r.Func 0 ∷ []) ∷ (r.Func 0 ∷ []) ∷ (r.Func 0 ∷ []) ∷ [])
unfolding exec unfolded step
keeps_later_segments = refl

keeps_the_data_segment : first_left (λ i. i.datas) passed ≡ Some ((255 ∷ []) ∷ [])
unfolding exec unfolded step
keeps_the_data_segment = refl

writes_no_data : bytes_left passed ≡ (0 ∷ []) ∷ []
unfolding exec unfolded step
writes_no_data = refl

-- the instance is there, and so its function can be called from the table
calls_what_was_written : ending (call (left passed).machine 9 [] 0 []) ≡ Gives (i32 0 ∷ [])
unfolding exec unfolded step
calls_what_was_written = refl

-- segments of each kind, over a memory and a table of its own; an item may be the value of a global
abbrev kept : ElemDecl
kept = record { ty = ref_type true h.Func; mode = elem_mode.Passive; items = c.GlobalGet 0 ∷ c.RefNull top.Func ∷ [] }

abbrev segmented : ModuleDecl
segmented = record (decl (straight 0 [] ∷ [])) {
  tables = nulls 2 ∷ [];
  memories = bytes 3 ∷ [];
  globals = start_value function_ref (c.RefFunc 0) ∷ [];
  elements = kept ∷ references elem_mode.Declared (0 ∷ []) ∷ references (elem_mode.Active 0 (at 1)) (0 ∷ []) ∷ [];
  datas = data_of (data_mode.Active 0 (at 1)) (7 ∷ 8 ∷ []) ∷ data_of data_mode.Passive (9 ∷ [])
      ∷ data_of (data_mode.Active 0 (at 2)) (6 ∷ []) ∷ [];
}

abbrev written : Outcome
written = instantiated empty 9 [] segmented []

-- data segments are written in order, a later one over an earlier one
writes_data : bytes_left written ≡ (0 ∷ 7 ∷ 6 ∷ []) ∷ []
unfolding exec unfolded step
writes_data = refl

writes_elements : elements_left written ≡ (r.Null ∷ r.Func 0 ∷ []) ∷ []
unfolding exec unfolded step
writes_elements = refl

-- passive segments are kept, declared ones and those that were written are dropped
drops_element_segments : first_left (λ i. i.elements) written ≡ Some ((r.Func 0 ∷ r.Null ∷ []) ∷ [] ∷ [] ∷ [])
unfolding exec unfolded step
drops_element_segments = refl

drops_data_segments : first_left (λ i. i.datas) written ≡ Some ([] ∷ (9 ∷ []) ∷ [] ∷ [])
unfolding exec unfolded step
drops_data_segments = refl

takes_segments_in_one_turn : (left written).turns ≡ 8
unfolding exec unfolded step
takes_segments_in_one_turn = refl

-- a second instance of the module has objects of its own
abbrev twice : Outcome
twice = instantiated (left written).machine 9 [] segmented []

has_its_own_function : (left twice).machine.functions ≡ guest 0 0 ∷ guest 1 0 ∷ []
unfolding exec unfolded step
has_its_own_function = refl

has_its_own_memory : map (λ i. i.memories) (left twice).machine.instances ≡ (0 ∷ []) ∷ (1 ∷ []) ∷ []
unfolding exec unfolded step
has_its_own_memory = refl

writes_its_own_elements : elements_left twice ≡ (r.Null ∷ r.Func 0 ∷ []) ∷ (r.Null ∷ r.Func 1 ∷ []) ∷ []
unfolding exec unfolded step
writes_its_own_elements = refl

drops_its_own_segments :
    map (λ i. i.elements) (left twice).machine.instances
    ≡ ((r.Func 0 ∷ r.Null ∷ []) ∷ [] ∷ [] ∷ []) ∷ ((r.Func 1 ∷ r.Null ∷ []) ∷ [] ∷ [] ∷ []) ∷ []
unfolding exec unfolded step
drops_its_own_segments = refl

-- and is counted too
counts_both : counts_left twice ≡ numbers 2 2 2
unfolding exec unfolded step
counts_both = refl

-- an empty segment is there at the end of a memory, and not past it; an offset may name a global
abbrev ending_at : ℕ → Outcome
ending_at n =
    instantiated empty 9 [] (record bare {
      memories = bytes 2 ∷ [];
      globals = start_value t.I32 (at n) ∷ [];
      datas = data_of (data_mode.Active 0 (at 0)) (7 ∷ []) ∷ data_of (data_mode.Active 0 (c.GlobalGet 0)) [] ∷ [];
    }) []

takes_an_empty_segment_at_the_end : ending (ending_at 2) ≡ Gives []
unfolding exec unfolded step
takes_an_empty_segment_at_the_end = refl

traps_past_the_memory : ending (ending_at 3) ≡ Ends (Trapped trap.MemoryOutOfBounds)
unfolding exec unfolded step
traps_past_the_memory = refl

keeps_the_data_before : bytes_left (ending_at 3) ≡ (7 ∷ 0 ∷ []) ∷ []
unfolding exec unfolded step
keeps_the_data_before = refl

-- an offset is a number from 0 to 2^32 - 1
takes_offsets_without_sign :
    ending (instantiated empty 9 [] (record bare {
      memories = bytes 2 ∷ [];
      datas = data_of (data_mode.Active 0 (c.I32 (negsuc 0))) [] ∷ [];
    }) [])
    ≡ Ends (Trapped trap.MemoryOutOfBounds)
unfolding exec unfolded step
takes_offsets_without_sign = refl

-- ---- the start function

-- a module whose start function adds one to a global, and then does this
abbrev starting : List Instr → ModuleDecl
starting more =
    record (decl (straight 0 (i.GlobalGet 0 ∷ i.Const32 (pos 1) ∷ i.Binary b.I32Add ∷ i.GlobalSet 0 ∷ more) ∷ [])) {
      globals = record { ty = global_parts t.I32 Var; init = at 6 } ∷ [];
      start = Some 0;
    }

abbrev begun : ℕ → List Instr → Outcome
begun turns more = instantiated empty turns [] (starting more) []

starts : ending (begun 9 []) ≡ Gives []
unfolding exec unfolded step
starts = refl

runs_the_start_function : globals_left (begun 9 []) ≡ i32 7 ∷ []
unfolding exec unfolded step
runs_the_start_function = refl

-- the turn of the instance, and four instructions
counts_the_turns : (left (begun 9 [])).turns ≡ 4
unfolding exec unfolded step
counts_the_turns = refl

-- where it traps the instance and what it wrote stay
traps_in_the_start_function : ending (begun 9 (i.Unreachable ∷ [])) ≡ Ends (Trapped trap.UnreachableCodeReached)
unfolding exec unfolded step
traps_in_the_start_function = refl

keeps_what_it_wrote : globals_left (begun 9 (i.Unreachable ∷ [])) ≡ i32 7 ∷ []
unfolding exec unfolded step
keeps_what_it_wrote = refl

keeps_the_instance : instances_left (begun 9 (i.Unreachable ∷ [])) ≡ 1
unfolding exec unfolded step
keeps_the_instance = refl

-- with one turn the instance is made, and the start function does nothing
stops_before_the_start_function : ending (begun 1 []) ≡ Ends Stopped
unfolding exec unfolded step
stops_before_the_start_function = refl

made_before_the_start_function : globals_left (begun 1 []) ≡ i32 6 ∷ []
unfolding exec unfolded step
made_before_the_start_function = refl

-- where the engine consumes fuel, the start function needs some, and the instance none
starts_without_fuel :
    ending (instantiated (with_fuel (pos 0) empty) 9 [] (starting []) []) ≡ Ends (Trapped trap.OutOfFuel)
unfolding exec unfolded step
starts_without_fuel = refl

makes_without_fuel : ending (instantiated (with_fuel (pos 0) empty) 9 [] sized []) ≡ Gives []
unfolding exec unfolded step
makes_without_fuel = refl

consumes_none : (left (instantiated (with_fuel (pos 0) empty) 9 [] sized [])).machine.fuel ≡ pos 0
unfolding exec unfolded step
consumes_none = refl

-- no function is open around the start function of an outermost instantiation
starts_in_the_first_frame : ending (instantiated (with_frames 1 empty) 9 [] (starting []) []) ≡ Gives []
unfolding exec unfolded step
starts_in_the_first_frame = refl

-- a host function as the start function, in a store with an instance and a hook
abbrev hooked : Machine
hooked =
    record (left (instantiated empty 9 [] bare [])).machine { functions = host quiet 0 [] ∷ []; is_hooked = true }

abbrev hosting : ModuleDecl
hosting = record bare {
  number = 4;
  imports = import (ty.Func quiet) ∷ [];
  memories = bytes 1 ∷ [];
  exports = record { name = 109 ∷ []; entity = entity.Memory 0 } ∷ [];
  start = Some 0;
}

abbrev done : Answer
done = Passed (Ok tt)

abbrev hosted : List Answer → Outcome
hosted answers = instantiated hooked 9 answers hosting (x.Func (func_of id 0) ∷ [])

abbrev stepped : Outcome
stepped = hosted (done ∷ Has true ∷ done ∷ says 1 (Return []) ∷ done ∷ done ∷ [])

starts_a_host_function : ending stepped ≡ Gives []
unfolding exec unfolded step
starts_a_host_function = refl

-- its code is called by the new instance, whose exports it sees
abbrev caller : Caller
caller = record {
  number = 4;
  exports = record { name = 109 ∷ []; entity = entity.Memory 0; object = Some (x.Memory (memory_of id 0)) } ∷ [];
}

sees_the_new_instance :
    asked stepped
    ≡ Passing CallingWasm ∷ Having 0 ∷ Passing CallingHost ∷ Stepping 0 0 Start (seen [] [] [] (Some caller))
    ∷ Passing ReturningFromHost ∷ Passing ReturningFromWasm ∷ []
unfolding exec unfolded step
sees_the_new_instance = refl

-- a hook that fails bars the start function, and the instance stays
bars_the_start_function : ending (hosted (Passed (Err (record {})) ∷ [])) ≡ Ends (Refused HookFault)
unfolding exec unfolded step
bars_the_start_function = refl

keeps_the_barred_instance : instances_left (hosted (Passed (Err (record {})) ∷ [])) ≡ 2
unfolding exec unfolded step
keeps_the_barred_instance = refl

-- without a start function no hook is asked
asks_no_hook : asked (instantiated hooked 9 [] sized []) ≡ []
unfolding exec unfolded step
asks_no_hook = refl

-- ---- the modules are valid

several_is_valid : first_broken several ≡ None
unfolding broken
several_is_valid = refl

foreign_is_valid : first_broken foreign ≡ None
unfolding broken
foreign_is_valid = refl

sized_is_valid : first_broken sized ≡ None
unfolding broken
sized_is_valid = refl

mixed_is_valid : first_broken mixed ≡ None
unfolding broken
mixed_is_valid = refl

passing_is_valid : first_broken passing ≡ None
unfolding broken
passing_is_valid = refl

segmented_is_valid : first_broken segmented ≡ None
unfolding broken
segmented_is_valid = refl

starting_is_valid : first_broken (starting (i.Unreachable ∷ [])) ≡ None
unfolding broken
starting_is_valid = refl

hosting_is_valid : first_broken hosting ≡ None
unfolding broken
hosting_is_valid = refl
