-- What texts spell, each by computation.
use Rattle.std.proofs.Common.{◌≡◌, ℕ, pos, negsuc, List, [], ◌∷◌, ◌++◌, Option, Some, None, true, false, refl}
use Rattle.std.specs.Prelude.{codes, replicate}
use Rattle.std.specs.Str.{is_utf8, chars}
use Rattle.serde_json.proofs.OnLiterals.{serde_json_on_literals}
use Rattle.serde_json.specs.Data.{Data}
use Rattle.hex.proofs.OnLiterals.{hex_on_literals}
use Rattle.script_json.specs.Fields.{◌>>=◌}
use Rattle.script_json.specs.Json.{json_of}
use Rattle.wasm_types.specs.FunctionParts.{parts, from_parts, ref_type}
use Rattle.wasm_types.specs.GlobalTypes.{global_parts}
use Rattle.wasm_types.specs.MemoryTypes.{memory_parts}
use Rattle.wasm_types.specs.Signatures.{Signature}
use Rattle.wasm_types.specs.TableTypes.{table_parts}
use Rattle.wasm_types.specs.declared.plain.Finality.TheVariants.{Final}
use Rattle.wasm_types.specs.declared.plain.Mutability.TheVariants.{Var}
use Rattle.wasm_types.specs.declared.value_types.HeapType.TheVariants as h
use Rattle.wasm_types.specs.declared.value_types.ValType.TheVariants as t
use Rattle.wasm_values.specs.Values.{vector}
use Rattle.wasm_values.specs.declared.values.Val.TheVariants as v
use Rattle.spec_machine.specs.Values.{any_of}
use Rattle.spec_machine.specs.declared.name.Name.TheVariants as name
use Rattle.spec_machine.specs.declared.name.Operand.TheVariants as operand
use Rattle.spec_machine.specs.declared.operation.Op.TheVariants as op
use Rattle.spec_machine.specs.declared.command.Command.{Command}
use Rattle.spec_machine.specs.declared.command.Command.TheVariants as command
use Rattle.script_commands.specs.Commands.{command_of}
use Rattle.script_commands.specs.Engines.{engine_with, default_engine}
use Rattle.script_commands.specs.HostAnswers.{no_answers}
use Rattle.script_commands.specs.Names.{name_of}
use Rattle.script_commands.specs.Operands.{operand_of, given, extern_of}
use Rattle.script_commands.specs.Scripts.{NoJson, NoScript, Spells, spelling}
use Rattle.script_commands.specs.declared.script.Script.{Script}

-- what a reader gives of the data that a text spells
abbrev reading : {A : Type 0} → (Data → Option A) → List ℕ → Option A
reading f text = json_of text >>= f

-- ---- scripts

-- a script without modules that says nothing of its engine and its host data
abbrev plain_script : List Command → Script
plain_script commands = record { engine = default_engine; modules = []; answers = no_answers; bodies = []; commands = commands }

-- engine, types, modules and host data have defaults
no_commands : spelling (codes "{\"commands\":[]}") ≡ Spells (record { engine = engine_with false false 1024 10000000; modules = []; answers = no_answers; bodies = []; commands = [] })
unfolding serde_json_on_literals hex_on_literals is_utf8 chars
no_commands = refl

three_commands : spelling (codes "{\"commands\":[{\"do\":\"memory_new\",\"min\":1},{\"do\":\"memory_write\",\"memory\":0,\"at\":0,\"bytes\":\"0a0B\"},{\"do\":\"memory_read\",\"memory\":0,\"at\":0,\"len\":3}]}") ≡ Spells (plain_script (command.Op (op.MemoryNew (memory_parts 1 None 16)) ∷ command.Op (op.MemoryWrite (name.Reply 0) 0 (10 ∷ 11 ∷ [])) ∷ command.Op (op.MemoryRead (name.Reply 0) 0 3) ∷ []))
unfolding serde_json_on_literals hex_on_literals is_utf8 chars
three_commands = refl

-- a command names a type by its number
tag : spelling (codes "{\"types\":[{\"params\":[\"i32\"]}],\"commands\":[{\"do\":\"tag_new\",\"type\":0}]}") ≡ Spells (plain_script (command.Op (op.TagNew (from_parts (parts 1 Final None (t.I32 ∷ []) []))) ∷ []))
unfolding serde_json_on_literals hex_on_literals is_utf8 chars
tag = refl

type_not_there : spelling (codes "{\"types\":[{}],\"commands\":[{\"do\":\"tag_new\",\"type\":1}]}") ≡ NoScript
unfolding serde_json_on_literals hex_on_literals is_utf8 chars
type_not_there = refl

cut : spelling (codes "{\"commands\":[") ≡ NoJson
unfolding serde_json_on_literals hex_on_literals is_utf8 chars
cut = refl

unknown_command : spelling (codes "{\"commands\":[{\"do\":\"fly\"}]}") ≡ NoScript
unfolding serde_json_on_literals hex_on_literals is_utf8 chars
unknown_command = refl

no_key : spelling (codes "{}") ≡ NoScript
unfolding serde_json_on_literals hex_on_literals is_utf8 chars
no_key = refl

abbrev nested : ℕ → List ℕ
nested n = replicate n 91 ++ replicate n 93

-- arrays nest at most 127 deep
deep : spelling (nested 127) ≡ NoScript
unfolding serde_json_on_literals hex_on_literals is_utf8 chars
deep = refl

too_deep : spelling (nested 128) ≡ NoJson
unfolding serde_json_on_literals hex_on_literals is_utf8 chars
too_deep = refl

-- ---- names

value_of_a_reply : reading name_of (codes "{\"value\":[3,1]}") ≡ Some (name.Value 3 1)
unfolding serde_json_on_literals is_utf8 chars
value_of_a_reply = refl

three_numbers : reading name_of (codes "{\"value\":[3,1,0]}") ≡ None
unfolding serde_json_on_literals is_utf8 chars
three_numbers = refl

two_members : reading name_of (codes "{\"arg\":0,\"stored\":0}") ≡ None
unfolding serde_json_on_literals is_utf8 chars
two_members = refl

caller : reading name_of (codes "{\"caller\":true}") ≡ Some name.Caller
unfolding serde_json_on_literals is_utf8 chars
caller = refl

no_caller : reading name_of (codes "{\"caller\":false}") ≡ None
unfolding serde_json_on_literals is_utf8 chars
no_caller = refl

-- ---- operands

-- an integer is taken modulo its width
greatest_32 : reading operand_of (codes "{\"i32\":4294967295}") ≡ given (v.I32 (negsuc 0))
unfolding serde_json_on_literals is_utf8 chars
greatest_32 = refl

past_32 : reading operand_of (codes "{\"i32\":4294967296}") ≡ None
unfolding serde_json_on_literals is_utf8 chars
past_32 = refl

least_32 : reading operand_of (codes "{\"i32\":-2147483648}") ≡ given (v.I32 (negsuc 2147483647))
unfolding serde_json_on_literals is_utf8 chars
least_32 = refl

below_32 : reading operand_of (codes "{\"i32\":-2147483649}") ≡ None
unfolding serde_json_on_literals is_utf8 chars
below_32 = refl

greatest_64 : reading operand_of (codes "{\"i64\":18446744073709551615}") ≡ given (v.I64 (negsuc 0))
unfolding serde_json_on_literals is_utf8 chars
greatest_64 = refl

least_64 : reading operand_of (codes "{\"i64\":-9223372036854775808}") ≡ given (v.I64 (negsuc 9223372036854775807))
unfolding serde_json_on_literals is_utf8 chars
least_64 = refl

-- bits are whole numbers
negative_bits : reading operand_of (codes "{\"f32\":-1}") ≡ None
unfolding serde_json_on_literals is_utf8 chars
negative_bits = refl

-- 32 digits of either case, the highest first
digits : reading operand_of (codes "{\"v128\":\"000000000000000000000000000001fF\"}") ≡ given (v.V128 (vector 511))
unfolding serde_json_on_literals hex_on_literals is_utf8 chars
digits = refl

high_digit : reading operand_of (codes "{\"v128\":\"80000000000000000000000000000000\"}") ≡ given (v.V128 (vector 170141183460469231731687303715884105728))
unfolding serde_json_on_literals hex_on_literals is_utf8 chars
high_digit = refl

few_digits : reading operand_of (codes "{\"v128\":\"ff\"}") ≡ None
unfolding serde_json_on_literals hex_on_literals is_utf8 chars
few_digits = refl

no_function : reading operand_of (codes "{\"func\":null}") ≡ given (v.FuncRef None)
unfolding serde_json_on_literals is_utf8 chars
no_function = refl

numbered_function : reading operand_of (codes "{\"func\":0}") ≡ None
unfolding serde_json_on_literals is_utf8 chars
numbered_function = refl

of_the_host : reading operand_of (codes "{\"extern\":18446744073709551615}") ≡ given (v.ExternRef (Some (extern_of 18446744073709551615)))
unfolding serde_json_on_literals is_utf8 chars
of_the_host = refl

null_of_the_host : reading operand_of (codes "{\"extern\":null}") ≡ given (v.ExternRef None)
unfolding serde_json_on_literals is_utf8 chars
null_of_the_host = refl

greatest_31 : reading operand_of (codes "{\"any\":2147483647}") ≡ given (v.AnyRef (any_of 2147483647))
unfolding serde_json_on_literals is_utf8 chars
greatest_31 = refl

past_31 : reading operand_of (codes "{\"any\":2147483648}") ≡ None
unfolding serde_json_on_literals is_utf8 chars
past_31 = refl

named : reading operand_of (codes "{\"name\":{\"stored\":2}}") ≡ Some (operand.Named (name.Stored 2))
unfolding serde_json_on_literals is_utf8 chars
named = refl

-- ---- commands

-- a fraction, an exponent and a minus zero are no whole numbers
fraction : reading (command_of []) (codes "{\"do\":\"memory_new\",\"min\":1.0}") ≡ None
unfolding serde_json_on_literals is_utf8 chars
fraction = refl

minus_zero : reading (command_of []) (codes "{\"do\":\"memory_new\",\"min\":-0}") ≡ None
unfolding serde_json_on_literals is_utf8 chars
minus_zero = refl

-- of a key that comes twice the last value stands
twice : reading (command_of []) (codes "{\"do\":\"memory_new\",\"min\":1,\"min\":2}") ≡ Some (command.Op (op.MemoryNew (memory_parts 2 None 16)))
unfolding serde_json_on_literals is_utf8 chars
twice = refl

small_pages : reading (command_of []) (codes "{\"do\":\"memory_new\",\"min\":65537,\"max\":4294967295,\"page\":0}") ≡ Some (command.Op (op.MemoryNew (memory_parts 65537 (Some 4294967295) 0)))
unfolding serde_json_on_literals is_utf8 chars
small_pages = refl

too_many_pages : reading (command_of []) (codes "{\"do\":\"memory_new\",\"min\":65537}") ≡ None
unfolding serde_json_on_literals is_utf8 chars
too_many_pages = refl

other_page : reading (command_of []) (codes "{\"do\":\"memory_new\",\"min\":1,\"page\":1}") ≡ None
unfolding serde_json_on_literals is_utf8 chars
other_page = refl

-- a greatest number is left out by its key alone
null_maximum : reading (command_of []) (codes "{\"do\":\"memory_new\",\"min\":1,\"max\":null}") ≡ None
unfolding serde_json_on_literals is_utf8 chars
null_maximum = refl

table : reading (command_of []) (codes "{\"do\":\"table_new\",\"ref\":\"externref\",\"min\":2,\"max\":4,\"init\":{\"extern\":7}}") ≡ Some (command.Op (op.TableNew (table_parts (ref_type true h.Extern) 2 (Some 4)) (operand.Val (v.ExternRef (Some (extern_of 7))))))
unfolding serde_json_on_literals is_utf8 chars
table = refl

table_of_numbers : reading (command_of []) (codes "{\"do\":\"table_new\",\"ref\":\"i32\",\"min\":0,\"init\":{\"i32\":0}}") ≡ None
unfolding serde_json_on_literals is_utf8 chars
table_of_numbers = refl

minimum_past_maximum : reading (command_of []) (codes "{\"do\":\"table_new\",\"ref\":\"funcref\",\"min\":2,\"max\":1,\"init\":{\"func\":null}}") ≡ None
unfolding serde_json_on_literals is_utf8 chars
minimum_past_maximum = refl

variable : reading (command_of []) (codes "{\"do\":\"global_new\",\"val\":\"i64\",\"mut\":true,\"init\":{\"i64\":-1}}") ≡ Some (command.Op (op.GlobalNew (global_parts t.I64 Var) (operand.Val (v.I64 (negsuc 0)))))
unfolding serde_json_on_literals is_utf8 chars
variable = refl

abbrev plain : Signature
plain = from_parts (parts 1 Final None [] [])

-- nothing is stored with a function where no key says so
function : reading (command_of (plain ∷ [])) (codes "{\"do\":\"func_new\",\"type\":0,\"body\":9}") ≡ Some (command.FuncNew plain 9 [])
unfolding serde_json_on_literals is_utf8 chars
function = refl

-- ---- instances and calls

instance : reading (command_of []) (codes "{\"do\":\"instantiate\",\"module\":2}") ≡ Some (command.Instantiate 2 [])
unfolding serde_json_on_literals is_utf8 chars
instance = refl

-- that there is a module of this number is not asked
greatest_module : reading (command_of []) (codes "{\"do\":\"instantiate\",\"module\":18446744073709551615}") ≡ Some (command.Instantiate 18446744073709551615 [])
unfolding serde_json_on_literals is_utf8 chars
greatest_module = refl

instance_without_module : reading (command_of []) (codes "{\"do\":\"instantiate\"}") ≡ None
unfolding serde_json_on_literals is_utf8 chars
instance_without_module = refl

module_past_64_bits : reading (command_of []) (codes "{\"do\":\"instantiate\",\"module\":18446744073709551616}") ≡ None
unfolding serde_json_on_literals is_utf8 chars
module_past_64_bits = refl

-- a module is named by its number alone
module_by_name : reading (command_of []) (codes "{\"do\":\"instantiate\",\"module\":{\"arg\":0}}") ≡ None
unfolding serde_json_on_literals is_utf8 chars
module_by_name = refl

-- nothing is imported where no key says so
no_imports_listed : reading (command_of []) (codes "{\"do\":\"instantiate\",\"module\":0,\"imports\":[]}") ≡ Some (command.Instantiate 0 [])
unfolding serde_json_on_literals is_utf8 chars
no_imports_listed = refl

-- an import is a name of any kind, and a name may come twice
each_import : reading (command_of []) (codes "{\"do\":\"instantiate\",\"module\":1,\"imports\":[4,{\"value\":[2,0]},4,{\"arg\":1},{\"stored\":0},{\"caller\":true}]}") ≡ Some (command.Instantiate 1 (name.Reply 4 ∷ name.Value 2 0 ∷ name.Reply 4 ∷ name.Arg 1 ∷ name.Stored 0 ∷ name.Caller ∷ []))
unfolding serde_json_on_literals is_utf8 chars
each_import = refl

-- null is no default
null_imports : reading (command_of []) (codes "{\"do\":\"instantiate\",\"module\":0,\"imports\":null}") ≡ None
unfolding serde_json_on_literals is_utf8 chars
null_imports = refl

one_import_alone : reading (command_of []) (codes "{\"do\":\"instantiate\",\"module\":0,\"imports\":4}") ≡ None
unfolding serde_json_on_literals is_utf8 chars
one_import_alone = refl

-- an import is a name, and no operand
import_by_operand : reading (command_of []) (codes "{\"do\":\"instantiate\",\"module\":0,\"imports\":[4,{\"name\":4}]}") ≡ None
unfolding serde_json_on_literals is_utf8 chars
import_by_operand = refl

import_by_text : reading (command_of []) (codes "{\"do\":\"instantiate\",\"module\":0,\"imports\":[\"f\"]}") ≡ None
unfolding serde_json_on_literals is_utf8 chars
import_by_text = refl

imports_by_one_name : reading (command_of []) (codes "{\"do\":\"instantiate\",\"module\":0,\"import\":[]}") ≡ None
unfolding serde_json_on_literals is_utf8 chars
imports_by_one_name = refl

export : reading (command_of []) (codes "{\"do\":\"get_export\",\"instance\":0,\"name\":\"add two\"}") ≡ Some (command.Op (op.GetExport (name.Reply 0) (codes "add two")))
unfolding serde_json_on_literals is_utf8 chars
export = refl

-- the instance is a name of any kind, and the empty text names an export
export_of_an_argument : reading (command_of []) (codes "{\"do\":\"get_export\",\"instance\":{\"arg\":1},\"name\":\"\"}") ≡ Some (command.Op (op.GetExport (name.Arg 1) []))
unfolding serde_json_on_literals is_utf8 chars
export_of_an_argument = refl

export_without_name : reading (command_of []) (codes "{\"do\":\"get_export\",\"instance\":0}") ≡ None
unfolding serde_json_on_literals is_utf8 chars
export_without_name = refl

export_without_instance : reading (command_of []) (codes "{\"do\":\"get_export\",\"name\":\"f\"}") ≡ None
unfolding serde_json_on_literals is_utf8 chars
export_without_instance = refl

export_by_number : reading (command_of []) (codes "{\"do\":\"get_export\",\"instance\":0,\"name\":0}") ≡ None
unfolding serde_json_on_literals is_utf8 chars
export_by_number = refl

export_of_a_kind : reading (command_of []) (codes "{\"do\":\"get_export\",\"instance\":0,\"name\":\"f\",\"kind\":\"func\"}") ≡ None
unfolding serde_json_on_literals is_utf8 chars
export_of_a_kind = refl

-- the name of an export is one line of text
line_feed : reading (command_of []) (codes "{\"do\":\"get_export\",\"instance\":0,\"name\":\"a\\nb\"}") ≡ None
unfolding serde_json_on_literals is_utf8 chars
line_feed = refl

carriage_return : reading (command_of []) (codes "{\"do\":\"get_export\",\"instance\":0,\"name\":\"a\\r\"}") ≡ None
unfolding serde_json_on_literals is_utf8 chars
carriage_return = refl

-- a call has no arguments, and as many results as the function, where no key says so
call_alone : reading (command_of []) (codes "{\"do\":\"call\",\"func\":1}") ≡ Some (command.Op (op.Call (name.Reply 1) [] None))
unfolding serde_json_on_literals is_utf8 chars
call_alone = refl

call_with_arguments : reading (command_of []) (codes "{\"do\":\"call\",\"func\":{\"value\":[3,0]},\"args\":[{\"i32\":10},{\"name\":2}],\"results\":1}") ≡ Some (command.Op (op.Call (name.Value 3 0) (operand.Val (v.I32 (pos 10)) ∷ operand.Named (name.Reply 2) ∷ []) (Some 1)))
unfolding serde_json_on_literals is_utf8 chars
call_with_arguments = refl

call_of_nothing : reading (command_of []) (codes "{\"do\":\"call\",\"args\":[]}") ≡ None
unfolding serde_json_on_literals is_utf8 chars
call_of_nothing = refl

one_argument_alone : reading (command_of []) (codes "{\"do\":\"call\",\"func\":1,\"args\":{\"i32\":10}}") ≡ None
unfolding serde_json_on_literals is_utf8 chars
one_argument_alone = refl

bad_argument : reading (command_of []) (codes "{\"do\":\"call\",\"func\":1,\"args\":[{\"i32\":10},10]}") ≡ None
unfolding serde_json_on_literals is_utf8 chars
bad_argument = refl

-- null is no default
null_arguments : reading (command_of []) (codes "{\"do\":\"call\",\"func\":1,\"args\":null}") ≡ None
unfolding serde_json_on_literals is_utf8 chars
null_arguments = refl

null_results : reading (command_of []) (codes "{\"do\":\"call\",\"func\":1,\"results\":null}") ≡ None
unfolding serde_json_on_literals is_utf8 chars
null_results = refl

negative_results : reading (command_of []) (codes "{\"do\":\"call\",\"func\":1,\"results\":-1}") ≡ None
unfolding serde_json_on_literals is_utf8 chars
negative_results = refl

call_by_name : reading (command_of []) (codes "{\"do\":\"call\",\"func\":1,\"name\":\"f\"}") ≡ None
unfolding serde_json_on_literals is_utf8 chars
call_by_name = refl

-- ---- fuel and epochs

get_fuel : reading (command_of []) (codes "{\"do\":\"get_fuel\"}") ≡ Some (command.Op op.GetFuel)
unfolding serde_json_on_literals is_utf8 chars
get_fuel = refl

get_fuel_of_a_store : reading (command_of []) (codes "{\"do\":\"get_fuel\",\"fuel\":1}") ≡ None
unfolding serde_json_on_literals is_utf8 chars
get_fuel_of_a_store = refl

set_fuel : reading (command_of []) (codes "{\"do\":\"set_fuel\",\"fuel\":18446744073709551615}") ≡ Some (command.Op (op.SetFuel 18446744073709551615))
unfolding serde_json_on_literals is_utf8 chars
set_fuel = refl

no_fuel : reading (command_of []) (codes "{\"do\":\"set_fuel\"}") ≡ None
unfolding serde_json_on_literals is_utf8 chars
no_fuel = refl

negative_fuel : reading (command_of []) (codes "{\"do\":\"set_fuel\",\"fuel\":-1}") ≡ None
unfolding serde_json_on_literals is_utf8 chars
negative_fuel = refl

yield_interval : reading (command_of []) (codes "{\"do\":\"yield_interval\",\"interval\":10}") ≡ Some (command.Op (op.YieldInterval (Some 10)))
unfolding serde_json_on_literals is_utf8 chars
yield_interval = refl

-- that it is refused is said by its reply
interval_of_0 : reading (command_of []) (codes "{\"do\":\"yield_interval\",\"interval\":0}") ≡ Some (command.Op (op.YieldInterval (Some 0)))
unfolding serde_json_on_literals is_utf8 chars
interval_of_0 = refl

no_interval : reading (command_of []) (codes "{\"do\":\"yield_interval\",\"interval\":null}") ≡ Some (command.Op (op.YieldInterval None))
unfolding serde_json_on_literals is_utf8 chars
no_interval = refl

-- no key stands for null
interval_left_out : reading (command_of []) (codes "{\"do\":\"yield_interval\"}") ≡ None
unfolding serde_json_on_literals is_utf8 chars
interval_left_out = refl

set_epoch_deadline : reading (command_of []) (codes "{\"do\":\"set_epoch_deadline\",\"ticks\":2}") ≡ Some (command.Op (op.SetEpochDeadline 2))
unfolding serde_json_on_literals is_utf8 chars
set_epoch_deadline = refl

deadline_without_ticks : reading (command_of []) (codes "{\"do\":\"set_epoch_deadline\"}") ≡ None
unfolding serde_json_on_literals is_utf8 chars
deadline_without_ticks = refl
