-- The lines of replies, each by computation.
use Rattle.std.proofs.Common.{◌≡◌, ◌+◌, ◌^◌, pos, negsuc, [], ◌∷◌, Some, None, refl}
use Rattle.std.specs.Prelude.{codes}
use Rattle.std.specs.Fmt.{digits}
use Rattle.hex.specs.Hex.{encode_with}
use Rattle.wasm_types.specs.declared.plain.Resource.TheVariants as resource
use Rattle.wasm_values.specs.Handles.{func_of, global_of, table_of, memory_of, tag_of, instance_of}
use Rattle.wasm_values.specs.Values.{vector}
use Rattle.wasm_values.specs.declared.externals.Extern.TheVariants as x
use Rattle.wasm_values.specs.declared.refusals.Refusal.TheVariants as refusal
use Rattle.wasm_values.specs.declared.refusals.Trap.TheVariants as trap
use Rattle.wasm_values.specs.declared.store_id.StoreId.{StoreId}
use Rattle.wasm_values.specs.declared.values.Val.TheVariants as v
use Rattle.spec_machine.specs.Values.{any_of}
use Rattle.wasm_meter.specs.declared.call_hook.CallHook.TheVariants as event
use Rattle.spec_machine.specs.declared.reply.Reply.TheVariants as reply
use Rattle.script_lines.specs.Lines.{hooks_line, line_of, lines_of, note_line, noted_from, noted_session_lines, session_lines}

done : line_of reply.Done ≡ codes "ok\n"
done = refl

number : line_of (reply.Number 65536) ≡ codes "ok 65536\n"
unfolding digits
number = refl

bytes : line_of (reply.Bytes (10 ∷ 255 ∷ [])) ≡ codes "ok bytes 0aff\n"
unfolding encode_with
bytes = refl

-- an empty text is no word
no_bytes : line_of (reply.Bytes []) ≡ codes "ok bytes\n"
unfolding encode_with
no_bytes = refl

no_values : line_of (reply.Values []) ≡ codes "ok values\n"
no_values = refl

integers : line_of (reply.Values (v.I32 (negsuc 0) ∷ v.I64 (negsuc 9223372036854775807) ∷ v.I32 (pos 0) ∷ [])) ≡ codes "ok values i32:-1 i64:-9223372036854775808 i32:0\n"
unfolding digits
integers = refl

-- the bits of 1.5, as a float of 32 and of 64 bits
floats : line_of (reply.Values (v.F32 0x3fc00000 ∷ v.F64 0x3ff8000000000000 ∷ [])) ≡ codes "ok values f32:3fc00000 f64:3ff8000000000000\n"
unfolding encode_with
floats = refl

-- the highest digit first
a_vector : line_of (reply.Values (v.V128 (vector (2 ^ 127 + 1)) ∷ [])) ≡ codes "ok values v128:80000000000000000000000000000001\n"
unfolding encode_with
a_vector = refl

nulls : line_of (reply.Values (v.FuncRef None ∷ v.ExternRef None ∷ v.AnyRef None ∷ [])) ≡ codes "ok values funcref:null externref:null anyref:null\n"
nulls = refl

references : (id : StoreId) → line_of (reply.Values (v.FuncRef (Some (func_of id 3)) ∷ v.ExternRef (Some (record { 0 = 7 })) ∷ v.AnyRef (any_of 5) ∷ [])) ≡ codes "ok values funcref:3 externref:7 anyref:5\n"
unfolding digits
references id = refl

-- the results of a call stand in their order
results : (id : StoreId) → line_of (reply.Values (v.I64 (pos 9223372036854775807) ∷ v.FuncRef (Some (func_of id 0)) ∷ v.F32 0 ∷ v.I32 (negsuc 2147483647) ∷ [])) ≡ codes "ok values i64:9223372036854775807 funcref:0 f32:00000000 i32:-2147483648\n"
unfolding digits encode_with
results id = refl

greatest_references : line_of (reply.Values (v.ExternRef (Some (record { 0 = 18446744073709551615 })) ∷ v.AnyRef (any_of 2147483647) ∷ [])) ≡ codes "ok values externref:18446744073709551615 anyref:2147483647\n"
unfolding digits
greatest_references = refl

-- ---- objects and instances

a_function : (id : StoreId) → line_of (reply.Object (x.Func (func_of id 1))) ≡ codes "ok func 1\n"
unfolding digits
a_function id = refl

a_global : (id : StoreId) → line_of (reply.Object (x.Global (global_of id 0))) ≡ codes "ok global 0\n"
unfolding digits
a_global id = refl

a_table : (id : StoreId) → line_of (reply.Object (x.Table (table_of id 12))) ≡ codes "ok table 12\n"
unfolding digits
a_table id = refl

a_memory : (id : StoreId) → line_of (reply.Object (x.Memory (memory_of id 2))) ≡ codes "ok memory 2\n"
unfolding digits
a_memory id = refl

a_tag : (id : StoreId) → line_of (reply.Object (x.Tag (tag_of id 65535))) ≡ codes "ok tag 65535\n"
unfolding digits
a_tag id = refl

an_instance : (id : StoreId) → line_of (reply.Instance (instance_of id 0)) ≡ codes "ok instance 0\n"
unfolding digits
an_instance id = refl

a_later_instance : (id : StoreId) → line_of (reply.Instance (instance_of id 9999)) ≡ codes "ok instance 9999\n"
unfolding digits
a_later_instance id = refl

absent : line_of reply.Absent ≡ codes "ok none\n"
absent = refl

-- ---- traps

memory_out_of_bounds : line_of (reply.Refused (refusal.Trap trap.MemoryOutOfBounds)) ≡ codes "trap MemoryOutOfBounds\n"
memory_out_of_bounds = refl

table_out_of_bounds : line_of (reply.Refused (refusal.Trap trap.TableOutOfBounds)) ≡ codes "trap TableOutOfBounds\n"
table_out_of_bounds = refl

indirect_call_to_null : line_of (reply.Refused (refusal.Trap trap.IndirectCallToNull)) ≡ codes "trap IndirectCallToNull\n"
indirect_call_to_null = refl

bad_signature : line_of (reply.Refused (refusal.Trap trap.BadSignature)) ≡ codes "trap BadSignature\n"
bad_signature = refl

integer_division_by_zero : line_of (reply.Refused (refusal.Trap trap.IntegerDivisionByZero)) ≡ codes "trap IntegerDivisionByZero\n"
integer_division_by_zero = refl

integer_overflow : line_of (reply.Refused (refusal.Trap trap.IntegerOverflow)) ≡ codes "trap IntegerOverflow\n"
integer_overflow = refl

unreachable_code_reached : line_of (reply.Refused (refusal.Trap trap.UnreachableCodeReached)) ≡ codes "trap UnreachableCodeReached\n"
unreachable_code_reached = refl

stack_overflow : line_of (reply.Refused (refusal.Trap trap.StackOverflow)) ≡ codes "trap StackOverflow\n"
stack_overflow = refl

out_of_fuel : line_of (reply.Refused (refusal.Trap trap.OutOfFuel)) ≡ codes "trap OutOfFuel\n"
out_of_fuel = refl

interrupt : line_of (reply.Refused (refusal.Trap trap.Interrupt)) ≡ codes "trap Interrupt\n"
interrupt = refl

-- ---- other refusals

no_reply : line_of (reply.Refused refusal.NoReply) ≡ codes "refused NoReply\n"
no_reply = refl

wrong_store : line_of (reply.Refused refusal.WrongStore) ≡ codes "refused WrongStore\n"
wrong_store = refl

wrong_engine : line_of (reply.Refused refusal.WrongEngine) ≡ codes "refused WrongEngine\n"
wrong_engine = refl

fuel_not_configured : line_of (reply.Refused refusal.FuelNotConfigured) ≡ codes "refused FuelNotConfigured\n"
fuel_not_configured = refl

fuel_interval : line_of (reply.Refused refusal.FuelInterval) ≡ codes "refused FuelInterval\n"
fuel_interval = refl

immutable_global : line_of (reply.Refused refusal.ImmutableGlobal) ≡ codes "refused ImmutableGlobal\n"
immutable_global = refl

import_count : line_of (reply.Refused refusal.ImportCount) ≡ codes "refused ImportCount\n"
import_count = refl

argument_count : line_of (reply.Refused refusal.ArgumentCount) ≡ codes "refused ArgumentCount\n"
argument_count = refl

result_count : line_of (reply.Refused refusal.ResultCount) ≡ codes "refused ResultCount\n"
result_count = refl

type_mismatch : line_of (reply.Refused refusal.TypeMismatch) ≡ codes "refused TypeMismatch\n"
type_mismatch = refl

memory_access_error : line_of (reply.Refused refusal.MemoryAccessError) ≡ codes "refused MemoryAccessError\n"
memory_access_error = refl

grow_failed : line_of (reply.Refused refusal.GrowFailed) ≡ codes "refused GrowFailed\n"
grow_failed = refl

limiter_fault : line_of (reply.Refused refusal.LimiterFault) ≡ codes "refused LimiterFault\n"
limiter_fault = refl

hook_fault : line_of (reply.Refused refusal.HookFault) ≡ codes "refused HookFault\n"
hook_fault = refl

epoch_fault : line_of (reply.Refused refusal.EpochFault) ≡ codes "refused EpochFault\n"
epoch_fault = refl

no_host_body : line_of (reply.Refused refusal.NoHostBody) ≡ codes "refused NoHostBody\n"
no_host_body = refl

host_fault : line_of (reply.Refused refusal.HostFault) ≡ codes "refused HostFault\n"
host_fault = refl

host_result_type : line_of (reply.Refused refusal.HostResultType) ≡ codes "refused HostResultType\n"
host_result_type = refl

turn_limit : line_of (reply.Refused refusal.TurnLimit) ≡ codes "refused TurnLimit\n"
turn_limit = refl

no_export : line_of (reply.Refused refusal.NoExport) ≡ codes "refused NoExport\n"
no_export = refl

out_of_memory : line_of (reply.Refused refusal.OutOfMemory) ≡ codes "refused OutOfMemory\n"
out_of_memory = refl

an_import : line_of (reply.Refused (refusal.ImportType 10)) ≡ codes "refused ImportType 10\n"
unfolding digits
an_import = refl

limit_of_instances : line_of (reply.Refused (refusal.ResourceLimit resource.Instance)) ≡ codes "refused ResourceLimit instance\n"
limit_of_instances = refl

limit_of_memories : line_of (reply.Refused (refusal.ResourceLimit resource.Memory)) ≡ codes "refused ResourceLimit memory\n"
limit_of_memories = refl

limit_of_tables : line_of (reply.Refused (refusal.ResourceLimit resource.Table)) ≡ codes "refused ResourceLimit table\n"
limit_of_tables = refl

-- ---- several replies

instance_export_call : (id : StoreId) → lines_of (reply.Instance (instance_of id 0) ∷ reply.Object (x.Func (func_of id 0)) ∷ reply.Values (v.I32 (pos 55) ∷ []) ∷ []) ≡ codes "ok instance 0\nok func 0\nok values i32:55\n"
unfolding digits
instance_export_call id = refl

-- ---- a hook

-- each event is a word, in the order in which they came
events : hooks_line (event.CallingWasm ∷ event.CallingHost ∷ event.ReturningFromHost ∷ event.ReturningFromWasm ∷ []) ≡ codes "hooks CallingWasm CallingHost ReturningFromHost ReturningFromWasm\n"
events = refl

no_events : hooks_line [] ≡ codes "hooks\n"
no_events = refl

-- the hook's line is the last one, and there is none where there is no hook
with_hook : session_lines (reply.Done ∷ []) (Some (event.CallingWasm ∷ [])) ≡ codes "ok\nhooks CallingWasm\n"
with_hook = refl

without_hook : session_lines (reply.Done ∷ []) None ≡ codes "ok\n"
without_hook = refl

-- ---- notes

a_note : note_line (codes "Got 3") ≡ codes "note Got 3\n"
a_note = refl

empty_note : note_line [] ≡ codes "note\n"
empty_note = refl

-- the notes of a command stand before its line, and the hook's line behind all
noted : noted_session_lines (([], reply.Number 1) ∷ (codes "a b" ∷ codes "c" ∷ [], reply.Values []) ∷ ([], reply.Done) ∷ []) (Some (event.CallingWasm ∷ [])) ≡ codes "ok 1\nnote a b\nnote c\nok values\nok\nhooks CallingWasm\n"
unfolding digits
noted = refl

-- there was no note before the first command, two came in the second one, and one in a command that is not finished
noted_by_counts : noted_from 0 (0 ∷ 2 ∷ 2 ∷ []) (codes "a" ∷ codes "b" ∷ codes "c" ∷ []) (reply.Number 1 ∷ reply.Values [] ∷ reply.Done ∷ []) ≡ ([], reply.Number 1) ∷ (codes "a" ∷ codes "b" ∷ [], reply.Values []) ∷ ([], reply.Done) ∷ []
noted_by_counts = refl
