-- Worked examples of sessions that run code, each by computation. Pages are of one byte.
use Rattle.std.proofs.Common.{◌≡◌, ℕ, zero, suc, ◌∷◌, [], Some, None, refl}
use Rattle.std.specs.Prelude.{List, Option, Ok, Err, true, pos, negsuc, take, option_map}
use Rattle.wasm_types.specs.MemoryTypes.{MemoryParts, memory_parts}
use Rattle.wasm_types.specs.declared.extern_type.ExternType.TheVariants as ty
use Rattle.wasm_syntax.specs.declared.accesses.StoreOp.TheVariants as s
use Rattle.wasm_syntax.specs.declared.declarations.Block.{Block}
use Rattle.wasm_syntax.specs.declared.declarations.ExportDecl.{ExportDecl}
use Rattle.wasm_syntax.specs.declared.declarations.FuncDecl.{FuncDecl}
use Rattle.wasm_syntax.specs.declared.declarations.ModuleDecl.{ModuleDecl}
use Rattle.wasm_syntax.specs.declared.entities.EntityIndex.{EntityIndex}
use Rattle.wasm_syntax.specs.declared.entities.EntityIndex.TheVariants as entity
use Rattle.wasm_syntax.specs.declared.instr.Instr.TheVariants as i
use Rattle.wasm_syntax.specs.declared.operators.BinOp.TheVariants as b
use Rattle.wasm_meter.specs.declared.call_hook.CallHook.TheVariants.{CallingWasm, ReturningFromWasm, CallingHost, ReturningFromHost}
use Rattle.wasm_values.specs.Handles.{func_of, memory_of, instance_of}
use Rattle.wasm_values.specs.declared.externals.Extern.TheVariants as x
use Rattle.wasm_values.specs.declared.refusals.Refusal.TheVariants.{NoReply, NoExport, ArgumentCount, ResultCount, TypeMismatch, HookFault, TurnLimit, Trap}
use Rattle.wasm_values.specs.declared.refusals.Trap.TheVariants.{IntegerDivisionByZero, IntegerOverflow, StackOverflow, UnreachableCodeReached}
use Rattle.wasm_values.specs.declared.values.Val.{Val}
use Rattle.wasm_values.specs.declared.values.Val.TheVariants as v
use Rattle.spec_machine.specs.Machine.{EngineParts, new_machine, numbers}
use Rattle.spec_machine.specs.declared.command.Command.{Command}
use Rattle.spec_machine.specs.declared.command.Command.TheVariants as command
use Rattle.spec_machine.specs.declared.name.Name.{Name}
use Rattle.spec_machine.specs.declared.name.Name.TheVariants as name
use Rattle.spec_machine.specs.declared.name.Operand.{Operand}
use Rattle.spec_machine.specs.declared.name.Operand.TheVariants as operand
use Rattle.spec_machine.specs.declared.operation.Op.TheVariants as op
use Rattle.spec_machine.specs.declared.reply.Reply.{Reply}
use Rattle.spec_machine.specs.declared.reply.Reply.TheVariants.{Bytes, Values, Object, Instance, Refused}
use Rattle.spec_execution.specs.Askings.{Answer, Question, Having, Has, Passing, Passed, Caller, Stepping, Stepped}
use Rattle.spec_execution.specs.Bodies.{exec, unfolded, step}
use Rattle.spec_execution.specs.Runs.{State, state, run, run_to, run_to_step, run_before}
use Rattle.spec_execution.specs.declared.answer.Answer.TheVariants.{Return, Call}
use Rattle.spec_execution.specs.declared.answer.Event.{Event}
use Rattle.spec_execution.specs.declared.answer.Event.TheVariants.{Start, Replied}
use Rattle.spec_execution.proofs.RunSamples.{turns_of, beginning, from, replies_of, asked_of}
use Rattle.spec_execution.proofs.Samples.{id, engine, quiet, decl, straight, function, block, branching, says, seen}

-- ---- modules, commands and replies

abbrev bytes : ℕ → MemoryParts
bytes most = memory_parts 1 (Some most) 0

abbrev export : ℕ → EntityIndex → ExportDecl
export letter e = record { name = letter ∷ []; entity = e }

-- one function that is exported as f
abbrev one_function : FuncDecl → ModuleDecl
one_function f = record (decl (f ∷ [])) { exports = export 102 (entity.Func 0) ∷ [] }

-- with a memory of at least one page, exported as m
abbrev and_memory : ℕ → ModuleDecl → ModuleDecl
and_memory most d = record d {
  memories = bytes most ∷ [];
  exports = export 102 (entity.Func 0) ∷ export 109 (entity.Memory 0) ∷ [];
}

abbrev n : ℕ → Name
n place = name.Reply place

abbrev i32 : ℕ → Val
i32 number = v.I32 (pos number)

abbrev make : ℕ → Command
make number = command.Instantiate number []

abbrev get : ℕ → ℕ → Command
get place letter = command.Op (op.GetExport (n place) (letter ∷ []))

abbrev with : List Val → List Operand
with [] = []
with (val ∷ vals) = operand.Val val ∷ with vals

abbrev call : ℕ → List Val → Command
call place vals = command.Op (op.Call (n place) (with vals) None)

abbrev read : ℕ → Command
read place = command.Op (op.MemoryRead (n place) 0 1)

abbrev instance : ℕ → Reply
instance number = Instance (instance_of id number)

abbrev func : ℕ → Reply
func number = Object (x.Func (func_of id number))

abbrev memory : ℕ → Reply
memory number = Object (x.Memory (memory_of id number))

abbrev gives : Val → Reply
gives val = Values (val ∷ [])

-- an engine with so many frames and turns, and the replies of a session on it
abbrev sized : ℕ → ℕ → EngineParts
sized frames turns = record engine { frames = frames; turns = turns }

abbrev session : EngineParts → List ModuleDecl → List Command → List Reply
session e modules commands = replies_of (run modules (from (new_machine id e)) commands)

-- ---- the conditions of a call, in their order

abbrev echo : ModuleDecl
echo = one_function (straight 2 (i.LocalGet 0 ∷ []))

tests_a_call :
    session engine (echo ∷ [])
    (make 0 ∷ get 0 102 ∷ command.Op (op.Call (n 1) [] (Some 0))
    ∷ command.Op (op.Call (n 1) (with (v.I64 (pos 1) ∷ [])) (Some 0)) ∷ call 1 (v.I64 (pos 1) ∷ [])
    ∷ call 1 (v.I32 (negsuc 4) ∷ []) ∷ [])
    ≡ instance 0 ∷ func 0 ∷ Refused ArgumentCount ∷ Refused ResultCount ∷ Refused TypeMismatch
    ∷ gives (v.I32 (negsuc 4)) ∷ []
unfolding exec unfolded step
tests_a_call = refl

counts_before_types :
    session engine (echo ∷ []) (make 0 ∷ get 0 102 ∷ call 1 (v.I64 (pos 1) ∷ v.I64 (pos 2) ∷ []) ∷ [])
    ≡ instance 0 ∷ func 0 ∷ Refused ArgumentCount ∷ []
unfolding exec unfolded step
counts_before_types = refl

-- ---- exports, and names that give nothing

refuses_what_is_not_exported :
    session engine (echo ∷ []) (make 0 ∷ get 0 103 ∷ get 1 102 ∷ make 1 ∷ command.Instantiate 0 (n 9 ∷ []) ∷ [])
    ≡ instance 0 ∷ Refused NoExport ∷ Refused NoReply ∷ Refused NoReply ∷ Refused NoReply ∷ []
unfolding exec unfolded step
refuses_what_is_not_exported = refl

-- ---- growth by a guest

abbrev growing : ModuleDecl
growing = and_memory 3 (one_function (straight 2 (i.LocalGet 0 ∷ i.MemoryGrow 0 ∷ [])))

grows_by_a_guest :
    session engine (growing ∷ [])
    (make 0 ∷ get 0 102 ∷ call 1 (i32 0 ∷ []) ∷ call 1 (i32 2 ∷ []) ∷ call 1 (i32 1 ∷ []) ∷ [])
    ≡ instance 0 ∷ func 0 ∷ gives (i32 1) ∷ gives (i32 1) ∷ gives (v.I32 (negsuc 0)) ∷ []
unfolding exec unfolded step
grows_by_a_guest = refl

-- the same on pages of 64 KiB
abbrev growing_by_pages : ModuleDecl
growing_by_pages = record growing { memories = memory_parts 1 (Some 3) 16 ∷ [] }

grows_by_pages :
    session engine (growing_by_pages ∷ [])
    (make 0 ∷ get 0 102 ∷ call 1 (i32 0 ∷ []) ∷ call 1 (i32 2 ∷ []) ∷ call 1 (i32 1 ∷ []) ∷ [])
    ≡ instance 0 ∷ func 0 ∷ gives (i32 1) ∷ gives (i32 1) ∷ gives (v.I32 (negsuc 0)) ∷ []
unfolding exec unfolded step
grows_by_pages = refl

-- ---- two instances of a module whose function writes a byte and calls itself

abbrev calling : ModuleDecl
calling =
    and_memory 1
    (one_function (straight 0 (i.Const32 (pos 0) ∷ i.Const32 (pos 255) ∷ i.Store s.I32Store8 0 0 ∷ i.Call 0 ∷ [])))

overflows_in_its_own_memory :
    session (sized 3 1000) (calling ∷ [])
    (make 0 ∷ make 0 ∷ get 0 102 ∷ call 2 [] ∷ get 0 109 ∷ get 1 109 ∷ read 4 ∷ read 5 ∷ [])
    ≡ instance 0 ∷ instance 1 ∷ func 0 ∷ Refused (Trap StackOverflow) ∷ memory 0 ∷ memory 1 ∷ Bytes (255 ∷ [])
    ∷ Bytes (0 ∷ []) ∷ []
unfolding exec unfolded step
overflows_in_its_own_memory = refl

-- the same with all frames, on pages of 64 KiB
abbrev calling_on_pages : ModuleDecl
calling_on_pages = record calling { memories = memory_parts 1 None 16 ∷ [] }

overflows_on_pages :
    session (sized 1024 10000000) (calling_on_pages ∷ [])
    (make 0 ∷ make 0 ∷ get 0 102 ∷ call 2 [] ∷ get 0 109 ∷ get 1 109 ∷ read 4 ∷ read 5 ∷ [])
    ≡ instance 0 ∷ instance 1 ∷ func 0 ∷ Refused (Trap StackOverflow) ∷ memory 0 ∷ memory 1 ∷ Bytes (255 ∷ [])
    ∷ Bytes (0 ∷ []) ∷ []
unfolding exec unfolded step
overflows_on_pages = refl

-- ---- a call that does not end: the next command has its own turns

abbrev looping : ModuleDecl
looping = one_function (function 0 (block 0 (i.Loop 1 ∷ []) ∷ block 0 (i.Br 0 ∷ []) ∷ []))

ends_at_the_turn_limit :
    session (sized 1024 1000) (looping ∷ [])
    (make 0 ∷ get 0 102 ∷ call 1 [] ∷ call 1 [] ∷ command.Op (op.MemoryNew (bytes 1)) ∷ [])
    ≡ instance 0 ∷ func 0 ∷ Refused TurnLimit ∷ Refused TurnLimit ∷ memory 0 ∷ []
unfolding exec unfolded step
ends_at_the_turn_limit = refl

-- ---- division

abbrev dividing : ModuleDecl
dividing = one_function (straight 3 (i.LocalGet 0 ∷ i.LocalGet 1 ∷ i.Binary b.I32DivS ∷ []))

divides :
    session engine (dividing ∷ [])
    (make 0 ∷ get 0 102 ∷ call 1 (i32 7 ∷ v.I32 (negsuc 1) ∷ []) ∷ call 1 (i32 1 ∷ i32 0 ∷ [])
    ∷ call 1 (v.I32 (negsuc 2147483647) ∷ v.I32 (negsuc 0) ∷ []) ∷ [])
    ≡ instance 0 ∷ func 0 ∷ gives (v.I32 (negsuc 2)) ∷ Refused (Trap IntegerDivisionByZero)
    ∷ Refused (Trap IntegerOverflow) ∷ []
unfolding exec unfolded step
divides = refl

-- 10 behind the inner of two blocks, 20 behind the outer
abbrev choosing : ModuleDecl
choosing =
    one_function (branching 2 ((0 ∷ 1 ∷ []) ∷ [])
    (block 2 (i.Block 1 ∷ i.Const32 (pos 20) ∷ []) ∷ block 0 (i.Block 2 ∷ i.Const32 (pos 10) ∷ i.Return ∷ [])
    ∷ block 0 (i.LocalGet 0 ∷ i.BrTable 0 ∷ []) ∷ []))

chooses :
    session engine (choosing ∷ [])
    (make 0 ∷ get 0 102 ∷ call 1 (i32 0 ∷ []) ∷ call 1 (i32 1 ∷ []) ∷ call 1 (v.I32 (negsuc 0) ∷ []) ∷ [])
    ≡ instance 0 ∷ func 0 ∷ gives (i32 10) ∷ gives (i32 20) ∷ gives (i32 20) ∷ []
unfolding exec unfolded step
chooses = refl

-- ---- a function of blocks in blocks, the innermost of which calls it: each frame takes a turn for each block

abbrev nesting : ModuleDecl
nesting =
    one_function (function 0
    (block 0 (i.Block 1 ∷ []) ∷ block 0 (i.Block 2 ∷ []) ∷ block 0 (i.Block 3 ∷ []) ∷ block 0 (i.Call 0 ∷ []) ∷ []))

overflows_in_twelve_turns :
    session (sized 3 12) (nesting ∷ []) (make 0 ∷ get 0 102 ∷ call 1 [] ∷ [])
    ≡ instance 0 ∷ func 0 ∷ Refused (Trap StackOverflow) ∷ []
unfolding exec unfolded step
overflows_in_twelve_turns = refl

needs_twelve_turns :
    session (sized 3 11) (nesting ∷ []) (make 0 ∷ get 0 102 ∷ call 1 [] ∷ [])
    ≡ instance 0 ∷ func 0 ∷ Refused TurnLimit ∷ []
unfolding exec unfolded step
needs_twelve_turns = refl

-- so many blocks, each in the one before, from this one on
abbrev nest : ℕ → ℕ → List Block
nest k zero = block 0 (i.Call 0 ∷ []) ∷ []
nest k (suc more) = block 0 (i.Block (suc k) ∷ []) ∷ nest (suc k) more

-- 256 blocks in each of 16 frames
abbrev deep : ModuleDecl
deep = one_function (function 0 (nest 0 255))

overflows_deep_inside :
    session (sized 16 4096) (deep ∷ []) (make 0 ∷ get 0 102 ∷ call 1 [] ∷ [])
    ≡ instance 0 ∷ func 0 ∷ Refused (Trap StackOverflow) ∷ []
unfolding exec unfolded step
overflows_deep_inside = refl

-- ---- a step of a host function that calls an export of the instance whose code called it

abbrev hosted : ModuleDecl
hosted = record (decl (straight 0 (i.Call 0 ∷ []) ∷ straight 0 (i.Unreachable ∷ []) ∷ [])) {
  imports = record { «module» = []; name = []; ty = ty.Func quiet } ∷ [];
  exports = export 102 (entity.Func 1) ∷ export 103 (entity.Func 2) ∷ [];
}

abbrev commands : List Command
commands = command.FuncNew quiet 0 [] ∷ command.Instantiate 0 (n 0 ∷ []) ∷ get 1 102 ∷ call 2 [] ∷ []

abbrev answers : List Answer
answers =
    Has true ∷ says 1 (Call (op.GetExport name.Caller (103 ∷ []))) ∷ says 2 (Call (op.Call (n 0) [] None))
    ∷ says 3 (Return []) ∷ []

abbrev start : EngineParts → List Answer → State
start e given = beginning (new_machine id e) given

hears_a_trap :
    replies_of (run (hosted ∷ []) (start engine answers) commands)
    ≡ func 0 ∷ instance 0 ∷ func 1 ∷ Values [] ∷ []
unfolding exec unfolded step
hears_a_trap = refl

-- the last step sees the export and the trap as replies
abbrev caller : Caller
caller = record {
  number = 0;
  exports =
      record { name = 102 ∷ []; entity = entity.Func 1; object = Some (x.Func (func_of id 1)) }
      ∷ record { name = 103 ∷ []; entity = entity.Func 2; object = Some (x.Func (func_of id 2)) } ∷ [];
}

abbrev stepping_in : EngineParts → ℕ → Event → List Reply → Question
stepping_in e after event replies =
    Stepping 0 after event (record (seen [] [] replies (Some caller)) { engine = e })

abbrev stepping : ℕ → Event → List Reply → Question
stepping after event replies = stepping_in engine after event replies

asks_each_step :
    asked_of (run (hosted ∷ []) (start engine answers) commands)
    ≡ Having 0 ∷ stepping 0 Start [] ∷ stepping 1 Replied (func 2 ∷ [])
    ∷ stepping 2 Replied (func 2 ∷ Refused (Trap UnreachableCodeReached) ∷ []) ∷ []
unfolding exec unfolded step
asks_each_step = refl

-- the guest, the host function and the function that it calls are open together
abbrev two_frames : EngineParts
two_frames = sized 2 1000

asks_at_two_frames :
    asked_of (run (hosted ∷ []) (start two_frames answers) commands)
    ≡ Having 0 ∷ stepping_in two_frames 0 Start [] ∷ stepping_in two_frames 1 Replied (func 2 ∷ [])
    ∷ stepping_in two_frames 2 Replied (func 2 ∷ Refused (Trap StackOverflow) ∷ []) ∷ []
unfolding exec unfolded step
asks_at_two_frames = refl

-- the call, a step, the export, a step and the code of the call: where a turn is wanted inside, the outermost command
-- ends
limits_all_turns :
    replies_of (run (hosted ∷ []) (start (sized 1024 4) answers) commands)
    ≡ func 0 ∷ instance 0 ∷ func 1 ∷ Refused TurnLimit ∷ []
unfolding exec unfolded step
limits_all_turns = refl

-- where a hook is set it stands before and behind each of the calls; behind the nested one its failure is the reply
abbrev fine : Answer
fine = Passed (Ok tt)

abbrev hooked : Answer → List Answer
hooked behind =
    fine ∷ Has true ∷ fine ∷ says 1 (Call (op.GetExport name.Caller (103 ∷ [])))
    ∷ says 2 (Call (op.Call (n 0) [] None)) ∷ fine ∷ behind ∷ says 3 (Return []) ∷ fine ∷ fine ∷ []

abbrev hooking : Answer → Option State
hooking behind =
    run (hosted ∷ []) (beginning (record (new_machine id engine) { is_hooked = true }) (hooked behind)) commands

abbrev passes : Reply → List Question
passes nested =
    Passing CallingWasm ∷ Having 0 ∷ Passing CallingHost ∷ stepping 0 Start [] ∷ stepping 1 Replied (func 2 ∷ [])
    ∷ Passing CallingWasm ∷ Passing ReturningFromWasm ∷ stepping 2 Replied (func 2 ∷ nested ∷ [])
    ∷ Passing ReturningFromHost ∷ Passing ReturningFromWasm ∷ []

asks_at_each_border : asked_of (hooking fine) ≡ passes (Refused (Trap UnreachableCodeReached))
unfolding exec unfolded step
asks_at_each_border = refl

hears_a_failing_hook : asked_of (hooking (Passed (Err (record {})))) ≡ passes (Refused HookFault)
unfolding exec unfolded step
hears_a_failing_hook = refl

gives_the_values : replies_of (hooking (Passed (Err (record {})))) ≡ func 0 ∷ instance 0 ∷ func 1 ∷ Values [] ∷ []
unfolding exec unfolded step
gives_the_values = refl

-- without an answer it waits, and there is no reply
waits_for_a_step : run (hosted ∷ []) (start engine (Has true ∷ [])) commands ≡ None
unfolding exec unfolded step
waits_for_a_step = refl

-- ---- the turns of a command: the call, two steps and an export, the code of the nested call, and the last step

takes_six_turns : turns_of (run (hosted ∷ []) (start engine answers) commands) ≡ Some 6
unfolding exec unfolded step
takes_six_turns = refl

-- all turns, where it was stopped by want of one
takes_all_turns : turns_of (run (hosted ∷ []) (start (sized 1024 4) answers) commands) ≡ Some 4
unfolding exec unfolded step
takes_all_turns = refl

-- ---- a stop at a step of the host that had no memory: the step was asked and took no turn

abbrev no_memory : List Answer
no_memory = Has true ∷ Stepped 1 (Err (record {})) ∷ []

abbrev exhausted : ℕ → Option State
exhausted turns = run_to_step (hosted ∷ []) (start engine no_memory) commands 3 turns

-- the state before the call, with what was heard since, and the turn of the call
abbrev before_the_step : Option State
before_the_step =
    option_map
    (λ (s : State).
    state s.machine 1 s.replies ((Having 0, Has true) ∷ (stepping 0 Start [], Stepped 1 (Err (record {}))) ∷ []) [])
    (run (hosted ∷ []) (start engine no_memory) (take 3 commands))

had_no_memory : exhausted 1 ≡ before_the_step
unfolding exec unfolded step
had_no_memory = refl

keeps_its_replies : replies_of before_the_step ≡ func 0 ∷ instance 0 ∷ func 1 ∷ []
unfolding exec unfolded step
keeps_its_replies = refl

-- with a turn less the step is not asked, and with one more a turn is left
asks_no_step : exhausted 0 ≡ None
unfolding exec unfolded step
asks_no_step = refl

leaves_a_turn : exhausted 2 ≡ None
unfolding exec unfolded step
leaves_a_turn = refl

-- it is no stop by want of a turn, and no reply
is_not_stopped : run_to (hosted ∷ []) (start engine no_memory) commands 3 2 ≡ None
unfolding exec unfolded step
is_not_stopped = refl

has_no_reply : run (hosted ∷ []) (start engine no_memory) commands ≡ None
unfolding exec unfolded step
has_no_reply = refl

-- ---- a stop in an instantiation before its first turn: its counts are raised

abbrev stopped : Option State
stopped = run_to (echo ∷ []) (from (new_machine id engine)) (make 0 ∷ []) 0 0

raises_counts_alone : stopped ≡ Some (from (record (new_machine id engine) { counts = numbers 1 0 0 }))
unfolding exec unfolded step
raises_counts_alone = refl

-- and not yet, before that
raises_no_counts :
    run_before (echo ∷ []) (from (new_machine id engine)) (make 0 ∷ []) 0 ≡ Some (from (new_machine id engine))
unfolding exec unfolded step
raises_no_counts = refl

-- no other command has such a moment
comes_before_instances_alone :
    run_before (echo ∷ []) (from (new_machine id engine)) (make 0 ∷ get 0 102 ∷ []) 1 ≡ None
unfolding exec unfolded step
comes_before_instances_alone = refl
