-- Worked examples of the definitions, each by computation.
use Rattle.std.proofs.Common.{◌≡◌, ◌∷◌, [], Some, refl}
use Rattle.std.specs.Prelude.{ℕ, List, Ok, Err, true, false, pos, negsuc}
use Rattle.wasm_meter.specs.Fuel.{fuel_left}
use Rattle.wasm_syntax.specs.declared.accesses.LoadOp.TheVariants as l
use Rattle.wasm_syntax.specs.declared.accesses.StoreOp.TheVariants as s
use Rattle.wasm_syntax.specs.declared.declarations.FuncDecl.{FuncDecl}
use Rattle.wasm_syntax.specs.declared.instr.Instr.{Instr}
use Rattle.wasm_syntax.specs.declared.instr.Instr.TheVariants as i
use Rattle.wasm_syntax.specs.declared.operators.BinOp.TheVariants as b
use Rattle.wasm_meter.specs.Growths.{memory_growth}
use Rattle.wasm_meter.specs.declared.deadline.UpdateDeadline.TheVariants.{Interrupt, Continue}
use Rattle.wasm_values.specs.declared.refusals.Refusal.TheVariants.{LimiterFault}
use Rattle.wasm_values.specs.declared.refusals.Trap.TheVariants as trap
use Rattle.wasm_objects.specs.declared.raw.RawRef.TheVariants as r
use Rattle.wasm_objects.specs.declared.raw.RawVal.{RawVal}
use Rattle.wasm_objects.specs.declared.raw.RawVal.TheVariants as w
use Rattle.spec_machine.specs.Machine.{Machine, guest}
use Rattle.spec_execution.specs.Askings.{Answer, Grown, Read, Behaved, Growing}
use Rattle.spec_execution.specs.Bodies.{exec, unfolded, step}
use Rattle.spec_execution.specs.Outcomes.{Outcome, Trapped, Refused, Stopped}
use Rattle.spec_execution.proofs.Samples.{asked, store, instance, straight, function, branching, block, pages, with_memory, with_table, with_global, with_elements, with_data, with_frames, with_fuel, with_epochs, call, ending, left, bytes_left, elements_left, globals_left, Gives, Ends, i32}

-- ---- numbers

-- two functions of two integers: their quotient, and their remainder
abbrev dividing : Machine
dividing =
    store (straight 3 (i.LocalGet 0 ∷ i.LocalGet 1 ∷ i.Binary b.I32DivS ∷ [])
    ∷ straight 3 (i.LocalGet 0 ∷ i.LocalGet 1 ∷ i.Binary b.I32RemS ∷ []) ∷ [])

abbrev least : List RawVal
least = w.I32 (negsuc 2147483647) ∷ w.I32 (negsuc 0) ∷ []

-- quotients are rounded toward zero
divides : ending (call dividing 9 [] 0 (i32 7 ∷ w.I32 (negsuc 1) ∷ [])) ≡ Gives (w.I32 (negsuc 2) ∷ [])
unfolding exec unfolded step
divides = refl

divides_by_zero : ending (call dividing 9 [] 0 (i32 1 ∷ i32 0 ∷ [])) ≡ Ends (Trapped trap.IntegerDivisionByZero)
unfolding exec unfolded step
divides_by_zero = refl

divides_the_least : ending (call dividing 9 [] 0 least) ≡ Ends (Trapped trap.IntegerOverflow)
unfolding exec unfolded step
divides_the_least = refl

-- remainders have the sign of the dividend
takes_remainders : ending (call dividing 9 [] 1 (w.I32 (negsuc 6) ∷ i32 2 ∷ [])) ≡ Gives (w.I32 (negsuc 0) ∷ [])
unfolding exec unfolded step
takes_remainders = refl

takes_the_remainder_of_the_least : ending (call dividing 9 [] 1 least) ≡ Gives (i32 0 ∷ [])
unfolding exec unfolded step
takes_the_remainder_of_the_least = refl

-- ---- blocks and branches

-- 10 behind the inner of two blocks, 20 behind the outer; the last label is that of all other numbers
abbrev choosing : Machine
choosing =
    store (branching 2 ((0 ∷ 1 ∷ []) ∷ [])
    (block 2 (i.Block 1 ∷ i.Const32 (pos 20) ∷ [])
    ∷ block 0 (i.Block 2 ∷ i.Const32 (pos 10) ∷ i.Return ∷ [])
    ∷ block 0 (i.LocalGet 0 ∷ i.BrTable 0 ∷ []) ∷ []) ∷ [])

chooses_the_inner : ending (call choosing 9 [] 0 (i32 0 ∷ [])) ≡ Gives (i32 10 ∷ [])
unfolding exec unfolded step
chooses_the_inner = refl

chooses_the_outer : ending (call choosing 9 [] 0 (i32 1 ∷ [])) ≡ Gives (i32 20 ∷ [])
unfolding exec unfolded step
chooses_the_outer = refl

chooses_the_last : ending (call choosing 9 [] 0 (w.I32 (negsuc 0) ∷ [])) ≡ Gives (i32 20 ∷ [])
unfolding exec unfolded step
chooses_the_last = refl

-- a branch carries the topmost operand, drops what is left of the block, and keeps what is below the block
abbrev carrying : Machine
carrying =
    store (function 1
    (block 1 (i.Const32 (pos 1) ∷ i.Block 1 ∷ i.Binary b.I32Add ∷ [])
    ∷ block 1 (i.Const32 (pos 7) ∷ i.Const32 (pos 9) ∷ i.Br 0 ∷ []) ∷ []) ∷ [])

carries : ending (call carrying 9 [] 0 []) ≡ Gives (i32 10 ∷ [])
unfolding exec unfolded step
carries = refl

-- a return leaves all blocks at once, with its operands below it dropped
abbrev returning : Machine
returning =
    store (function 1
    (block 1 (i.Const32 (pos 1) ∷ i.Block 1 ∷ i.Binary b.I32Add ∷ [])
    ∷ block 1 (i.Const32 (pos 7) ∷ i.Const32 (pos 42) ∷ i.Return ∷ []) ∷ []) ∷ [])

returns : ending (call returning 9 [] 0 []) ≡ Gives (i32 42 ∷ [])
unfolding exec unfolded step
returns = refl

-- an if takes its first block where the operand is not zero
abbrev deciding : Machine
deciding =
    store (function 2
    (block 2 (i.LocalGet 0 ∷ i.If 1 2 ∷ [])
    ∷ block 1 (i.Const32 (pos 10) ∷ [])
    ∷ block 1 (i.Const32 (pos 20) ∷ []) ∷ []) ∷ [])

decides_for_one : ending (call deciding 9 [] 0 (i32 5 ∷ [])) ≡ Gives (i32 10 ∷ [])
unfolding exec unfolded step
decides_for_one = refl

decides_for_zero : ending (call deciding 9 [] 0 (i32 0 ∷ [])) ≡ Gives (i32 20 ∷ [])
unfolding exec unfolded step
decides_for_zero = refl

-- a select takes the first of two operands where the third is not zero
abbrev selecting : Machine
selecting =
    store (straight 2 (i.Const32 (pos 10) ∷ i.Const32 (pos 20) ∷ i.LocalGet 0 ∷ i.Select ∷ []) ∷ [])

selects_the_first : ending (call selecting 9 [] 0 (i32 5 ∷ [])) ≡ Gives (i32 10 ∷ [])
unfolding exec unfolded step
selects_the_first = refl

selects_the_second : ending (call selecting 9 [] 0 (i32 0 ∷ [])) ≡ Gives (i32 20 ∷ [])
unfolding exec unfolded step
selects_the_second = refl

-- ---- loops

-- a loop that takes one integer along, and is left at zero: it adds one to the global at each round
abbrev count : List Instr
count = i.GlobalGet 0 ∷ i.Const32 (pos 1) ∷ i.Binary b.I32Add ∷ i.GlobalSet 0 ∷ []

abbrev counting : Machine
counting =
    with_global (store (function 2
    (block 2 (i.LocalGet 0 ∷ i.Loop 1 ∷ [])
    ∷ block 2 (i.LocalSet 0 ∷ i.GlobalGet 0 ∷ i.Const32 (pos 1) ∷ i.Binary b.I32Add ∷ i.GlobalSet 0 ∷ i.LocalGet 0
    ∷ i.Const32 (pos 1) ∷ i.Binary b.I32Sub ∷ i.LocalTee 0 ∷ i.LocalGet 0 ∷ i.BrIf 0 ∷ []) ∷ []) ∷ []))

abbrev counted : Outcome
counted = call counting 100 [] 0 (i32 3 ∷ [])

counts_down : ending counted ≡ Gives (i32 0 ∷ [])
unfolding exec unfolded step
counts_down = refl

counts_three_rounds : globals_left counted ≡ i32 3 ∷ []
unfolding exec unfolded step
counts_three_rounds = refl

-- each round has eleven instructions, and two stand before the first
counts_turns : (left counted).turns ≡ 65
unfolding exec unfolded step
counts_turns = refl

-- a loop that never ends is stopped when the turns are used up
abbrev stopped : Outcome
stopped = call (store (function 0 (block 0 (i.Loop 1 ∷ []) ∷ block 0 (i.Br 0 ∷ []) ∷ []) ∷ [])) 50 [] 0 []

stops : ending stopped ≡ Ends Stopped
unfolding exec unfolded step
stops = refl

uses_all_turns : (left stopped).turns ≡ 0
unfolding exec unfolded step
uses_all_turns = refl

-- ---- fuel and epochs

-- a loop without end that adds one to the global at each round
abbrev endless : Machine
endless =
    with_global (store (function 0
    (block 0 (i.Loop 1 ∷ [])
    ∷ block 0 (i.GlobalGet 0 ∷ i.Const32 (pos 1) ∷ i.Binary b.I32Add ∷ i.GlobalSet 0 ∷ i.Br 0 ∷ []) ∷ []) ∷ []))

-- twelve units last for the loop and three rounds of five instructions, the last of which goes below zero
abbrev fuelled : ℕ → Outcome
fuelled fuel = call (with_fuel (pos fuel) endless) 100 [] 0 []

runs_out_of_fuel : ending (fuelled 12) ≡ Ends (Trapped trap.OutOfFuel)
unfolding exec unfolded step
runs_out_of_fuel = refl

runs_three_rounds : globals_left (fuelled 12) ≡ i32 3 ∷ []
unfolding exec unfolded step
runs_three_rounds = refl

has_no_fuel_left : fuel_left (left (fuelled 12)).machine.fuel ≡ 0
unfolding exec unfolded step
has_no_fuel_left = refl

goes_below_zero : (left (fuelled 12)).machine.fuel ≡ negsuc 3
unfolding exec unfolded step
goes_below_zero = refl

-- without fuel not one turn is taken
needs_fuel_to_enter : left (fuelled 0) ≡ record (left (fuelled 0)) { machine = with_fuel (pos 0) endless; turns = 100 }
unfolding exec unfolded step
needs_fuel_to_enter = refl

-- the entry reads 1 and the loop reads 2, which is the deadline
abbrev timed : Outcome
timed = call (with_epochs 2 endless) 100 (Read (Ok 1) ∷ Read (Ok 2) ∷ []) 0 []

interrupts : ending timed ≡ Ends (Trapped trap.Interrupt)
unfolding exec unfolded step
interrupts = refl

interrupts_before_the_first_round : globals_left timed ≡ i32 0 ∷ []
unfolding exec unfolded step
interrupts_before_the_first_round = refl

-- with a behaviour that goes on by five ticks the deadline is 8 from the reading 3 on, and is met behind five rounds
abbrev extended : Outcome
extended =
    call (record (with_epochs 2 endless) { is_behaving = true }) 100
    (Read (Ok 1) ∷ Read (Ok 2) ∷ Behaved (Ok (Continue 5)) ∷ Read (Ok 3) ∷ Read (Ok 4) ∷ Read (Ok 5) ∷ Read (Ok 6)
    ∷ Read (Ok 7) ∷ Read (Ok 8) ∷ Behaved (Ok Interrupt) ∷ []) 0 []

interrupts_at_the_new_deadline : ending extended ≡ Ends (Trapped trap.Interrupt)
unfolding exec unfolded step
interrupts_at_the_new_deadline = refl

sets_the_deadline : (left extended).machine.deadline ≡ 8
unfolding exec unfolded step
sets_the_deadline = refl

goes_on_to_the_deadline : globals_left extended ≡ i32 5 ∷ []
unfolding exec unfolded step
goes_on_to_the_deadline = refl

-- ---- calls

-- a function of an instance that writes a byte and calls itself, in a store with two instances
abbrev calling : FuncDecl
calling =
    straight 0 (i.Const32 (pos 0) ∷ i.Const32 (pos 255) ∷ i.Store s.I32Store8 0 0 ∷ i.Call 0 ∷ [])

abbrev twice : Machine
twice = record (with_frames 3 (store (calling ∷ []))) {
  memories = pages 1 (0 ∷ []) ∷ pages 1 (0 ∷ []) ∷ [];
  functions = guest 0 0 ∷ guest 1 0 ∷ [];
  instances =
      record (instance (calling ∷ [])) { memories = 0 ∷ [] }
      ∷ record (instance (calling ∷ [])) { functions = 1 ∷ []; memories = 1 ∷ [] } ∷ [];
}

-- the fourth frame is one too many; what was written stays, in the memory of its own instance
overflows_the_stack : ending (call twice 100 [] 0 []) ≡ Ends (Trapped trap.StackOverflow)
unfolding exec unfolded step
overflows_the_stack = refl

has_three_frames : (left (call twice 100 [] 0 [])).turns ≡ 88
unfolding exec unfolded step
has_three_frames = refl

keeps_what_was_written : bytes_left (call twice 100 [] 0 []) ≡ (255 ∷ []) ∷ (0 ∷ []) ∷ []
unfolding exec unfolded step
keeps_what_was_written = refl

-- a table with a function of a type below the wanted one, one of another type, and two nulls
abbrev indirect : Machine
indirect =
    with_table (r.Func 0 ∷ r.Func 1 ∷ r.Null ∷ r.Null ∷ []) (store
    (straight 5 (i.Const32 (pos 7) ∷ []) ∷ straight 0 [] ∷ straight 2 (i.LocalGet 0 ∷ i.CallIndirect 1 0 ∷ []) ∷ []))

calls_a_matching_function : ending (call indirect 9 [] 2 (i32 0 ∷ [])) ≡ Gives (i32 7 ∷ [])
unfolding exec unfolded step
calls_a_matching_function = refl

calls_another_type : ending (call indirect 9 [] 2 (i32 1 ∷ [])) ≡ Ends (Trapped trap.BadSignature)
unfolding exec unfolded step
calls_another_type = refl

calls_null : ending (call indirect 9 [] 2 (i32 2 ∷ [])) ≡ Ends (Trapped trap.IndirectCallToNull)
unfolding exec unfolded step
calls_null = refl

calls_past_the_end : ending (call indirect 9 [] 2 (i32 9 ∷ [])) ≡ Ends (Trapped trap.TableOutOfBounds)
unfolding exec unfolded step
calls_past_the_end = refl

-- ---- growth

-- a memory of so many pages of at most three
abbrev growing : List ℕ → Machine
growing bytes = with_memory 3 bytes (store (straight 2 (i.LocalGet 0 ∷ i.MemoryGrow 0 ∷ []) ∷ []))

grows_by_nothing : ending (call (growing (5 ∷ [])) 9 [] 0 (i32 0 ∷ [])) ≡ Gives (i32 1 ∷ [])
unfolding exec unfolded step
grows_by_nothing = refl

grows_by_two : ending (call (growing (5 ∷ [])) 9 [] 0 (i32 2 ∷ [])) ≡ Gives (i32 1 ∷ [])
unfolding exec unfolded step
grows_by_two = refl

grows_to_the_maximum : bytes_left (call (growing (5 ∷ [])) 9 [] 0 (i32 2 ∷ [])) ≡ (5 ∷ 0 ∷ 0 ∷ []) ∷ []
unfolding exec unfolded step
grows_to_the_maximum = refl

grows_past_the_maximum : ending (call (growing (5 ∷ 0 ∷ 0 ∷ [])) 9 [] 0 (i32 1 ∷ [])) ≡ Gives (w.I32 (negsuc 0) ∷ [])
unfolding exec unfolded step
grows_past_the_maximum = refl

abbrev limited : Answer → Outcome
limited answer = call (record (growing (5 ∷ [])) { is_limited = true }) 9 (answer ∷ []) 0 (i32 1 ∷ [])

-- a question is a turn of its own, before that of the instruction
grows_where_granted : ending (limited (Grown (Ok true))) ≡ Gives (i32 1 ∷ [])
unfolding exec unfolded step
grows_where_granted = refl

asks_in_a_turn : (left (limited (Grown (Ok true)))).turns ≡ 6
unfolding exec unfolded step
asks_in_a_turn = refl

asks_from_here_to_there : asked (limited (Grown (Ok true))) ≡ Growing (memory_growth 1 2 (Some 3)) ∷ []
unfolding exec unfolded step
asks_from_here_to_there = refl

is_denied : ending (limited (Grown (Ok false))) ≡ Gives (w.I32 (negsuc 0) ∷ [])
unfolding exec unfolded step
is_denied = refl

ends_by_a_failing_limiter : ending (limited (Grown (Err (record {})))) ≡ Ends (Refused LimiterFault)
unfolding exec unfolded step
ends_by_a_failing_limiter = refl

-- a growth that was not executed takes no turn
takes_no_turn_for_a_failing_limiter : (left (limited (Grown (Err (record {}))))).turns ≡ 7
unfolding exec unfolded step
takes_no_turn_for_a_failing_limiter = refl

-- ---- memories

abbrev storing : List Instr → Outcome
storing is = call (with_memory 6 (255 ∷ 1 ∷ 2 ∷ 3 ∷ 4 ∷ 5 ∷ []) (store (straight 1 is ∷ []))) 9 [] 0 []

-- a load past the end, by its offset too, which does not wrap
loads_past_the_end :
    ending (storing (i.Const32 (pos 3) ∷ i.Load l.I32Load 0 0 ∷ [])) ≡ Ends (Trapped trap.MemoryOutOfBounds)
unfolding exec unfolded step
loads_past_the_end = refl

adds_the_offset :
    ending (storing (i.Const32 (negsuc 0) ∷ i.Load l.I32Load8U 0 2 ∷ [])) ≡ Ends (Trapped trap.MemoryOutOfBounds)
unfolding exec unfolded step
adds_the_offset = refl

loads_little_endian : ending (storing (i.Const32 (pos 0) ∷ i.Load l.I32Load 0 1 ∷ [])) ≡ Gives (i32 67305985 ∷ [])
unfolding exec unfolded step
loads_little_endian = refl

extends_the_sign : ending (storing (i.Const32 (pos 0) ∷ i.Load l.I32Load8S 0 0 ∷ [])) ≡ Gives (w.I32 (negsuc 0) ∷ [])
unfolding exec unfolded step
extends_the_sign = refl

extends_by_zeros : ending (storing (i.Const32 (pos 0) ∷ i.Load l.I32Load8U 0 0 ∷ [])) ≡ Gives (i32 255 ∷ [])
unfolding exec unfolded step
extends_by_zeros = refl

-- a store writes the low bytes, and past the end nothing
abbrev long : Outcome
long = storing (i.Const32 (pos 1) ∷ i.Const64 (pos 4886718345) ∷ i.Store s.I64Store32 0 1 ∷ i.Const32 (pos 0) ∷ [])

stores_the_low_bytes : bytes_left long ≡ (255 ∷ 1 ∷ 137 ∷ 103 ∷ 69 ∷ 35 ∷ []) ∷ []
unfolding exec unfolded step
stores_the_low_bytes = refl

abbrev outside : Outcome
outside = storing (i.Const32 (pos 3) ∷ i.Const32 (pos 7) ∷ i.Store s.I32Store 0 0 ∷ [])

stores_nothing_past_the_end : bytes_left outside ≡ (255 ∷ 1 ∷ 2 ∷ 3 ∷ 4 ∷ 5 ∷ []) ∷ []
unfolding exec unfolded step
stores_nothing_past_the_end = refl

abbrev three : ℕ → ℕ → ℕ → Instr → List Instr
three a b c act = i.Const32 (pos a) ∷ i.Const32 (pos b) ∷ i.Const32 (pos c) ∷ act ∷ i.Const32 (pos 0) ∷ []

-- a copy gives the source as it was, on overlap too; the empty range is there at the end, and not past it
copies_on_overlap : bytes_left (storing (three 1 0 4 (i.MemoryCopy 0 0))) ≡ (255 ∷ 255 ∷ 1 ∷ 2 ∷ 3 ∷ 5 ∷ []) ∷ []
unfolding exec unfolded step
copies_on_overlap = refl

copies_nothing_at_the_end : ending (storing (three 6 6 0 (i.MemoryCopy 0 0))) ≡ Gives (i32 0 ∷ [])
unfolding exec unfolded step
copies_nothing_at_the_end = refl

copies_nothing_past_the_end : ending (storing (three 7 0 0 (i.MemoryCopy 0 0))) ≡ Ends (Trapped trap.MemoryOutOfBounds)
unfolding exec unfolded step
copies_nothing_past_the_end = refl

fills_by_the_low_byte : bytes_left (storing (three 1 257 2 (i.MemoryFill 0))) ≡ (255 ∷ 1 ∷ 1 ∷ 3 ∷ 4 ∷ 5 ∷ []) ∷ []
unfolding exec unfolded step
fills_by_the_low_byte = refl

-- ---- segments

abbrev with_bytes : List Instr → Outcome
with_bytes is =
    call (with_data (7 ∷ 8 ∷ []) (with_memory 3 (0 ∷ 0 ∷ 0 ∷ []) (store (straight 1 is ∷ [])))) 9 [] 0 []

-- a part of a segment is written; a segment that was dropped is empty

writes_a_data_segment : bytes_left (with_bytes (three 1 0 2 (i.MemoryInit 0 0))) ≡ (0 ∷ 7 ∷ 8 ∷ []) ∷ []
unfolding exec unfolded step
writes_a_data_segment = refl

reads_past_a_data_segment : ending (with_bytes (three 0 1 2 (i.MemoryInit 0 0))) ≡ Ends (Trapped trap.MemoryOutOfBounds)
unfolding exec unfolded step
reads_past_a_data_segment = refl

drops_a_data_segment :
    ending (with_bytes (i.DataDrop 0 ∷ three 0 0 1 (i.MemoryInit 0 0))) ≡ Ends (Trapped trap.MemoryOutOfBounds)
unfolding exec unfolded step
drops_a_data_segment = refl

abbrev with_items : List Instr → Outcome
with_items is =
    call (with_elements (r.Func 0 ∷ r.Null ∷ [])
    (with_table (r.Null ∷ r.Null ∷ r.Null ∷ []) (store (straight 1 is ∷ [])))) 9 [] 0 []

writes_an_element_segment :
    elements_left (with_items (three 1 0 2 (i.TableInit 0 0))) ≡ (r.Null ∷ r.Func 0 ∷ r.Null ∷ []) ∷ []
unfolding exec unfolded step
writes_an_element_segment = refl

drops_an_element_segment :
    ending (with_items (i.ElemDrop 0 ∷ three 0 0 1 (i.TableInit 0 0))) ≡ Ends (Trapped trap.TableOutOfBounds)
unfolding exec unfolded step
drops_an_element_segment = refl
