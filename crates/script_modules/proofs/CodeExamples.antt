-- What texts spell of constants, instructions and code, each by computation.
use Rattle.std.proofs.Common.{◌≡◌, ℕ, pos, negsuc, List, [], ◌∷◌, Option, Some, None, refl}
use Rattle.std.specs.Prelude.{codes}
use Rattle.std.specs.Str.{is_utf8, chars}
use Rattle.serde_json.proofs.OnLiterals.{serde_json_on_literals}
use Rattle.serde_json.specs.Data.{Data}
use Rattle.hex.proofs.OnLiterals.{hex_on_literals}
use Rattle.wasm_types.specs.declared.plain.HeapTopType.TheVariants as top
use Rattle.script_json.specs.Fields.{◌>>=◌}
use Rattle.script_json.specs.Json.{json_of}
use Rattle.wasm_syntax.specs.declared.accesses.LoadOp.TheVariants as load
use Rattle.wasm_syntax.specs.declared.accesses.StoreOp.TheVariants as store
use Rattle.wasm_syntax.specs.declared.constants.ConstExpr.TheVariants as const
use Rattle.wasm_syntax.specs.declared.instr.Instr.{Instr}
use Rattle.wasm_syntax.specs.declared.instr.Instr.TheVariants as i
use Rattle.wasm_syntax.specs.declared.operators.BinOp.TheVariants as bin
use Rattle.wasm_syntax.specs.declared.operators.UnOp.TheVariants as un
use Rattle.script_modules.specs.Code.{code_to, instr_of}
use Rattle.script_modules.specs.CodeParts.{block}
use Rattle.script_modules.specs.Constants.{constant_of}
use Rattle.script_modules.specs.Functions.{body_of, no_parts}
use Rattle.script_modules.specs.InstrNames.{name_of}
use Rattle.script_modules.specs.declared.code_parts.CodeParts.{CodeParts}

-- what a reader gives of the data that a text spells
abbrev reading : {A : Type 0} → (Data → Option A) → List ℕ → Option A
reading f text = json_of text >>= f

-- an instruction without inner code
abbrev plainly : Data → Option Instr
plainly d = instr_of (code_to 0) d no_parts >>= (λ read. Some read.0)

-- the body of a function of type 7
abbrev body : Data → Option CodeParts
body d = body_of 7 (Some d)

-- an integer is taken modulo its width
integer_32 : reading constant_of (codes "[\"i32.const\",4294967295]") ≡ Some (const.I32 (negsuc 0))
unfolding serde_json_on_literals is_utf8 chars
integer_32 = refl

integer_64 : reading constant_of (codes "[\"i64.const\",-9223372036854775808]") ≡ Some (const.I64 (negsuc 9223372036854775807))
unfolding serde_json_on_literals is_utf8 chars
integer_64 = refl

below_32 : reading constant_of (codes "[\"i32.const\",-2147483649]") ≡ None
unfolding serde_json_on_literals is_utf8 chars
below_32 = refl

-- the bits of a float are a number of its width
float_32 : reading constant_of (codes "[\"f32.bits\",2143289344]") ≡ Some (const.F32 2143289344)
unfolding serde_json_on_literals is_utf8 chars
float_32 = refl

float_32_too_wide : reading constant_of (codes "[\"f32.bits\",4294967296]") ≡ None
unfolding serde_json_on_literals is_utf8 chars
float_32_too_wide = refl

float_64 : reading constant_of (codes "[\"f64.bits\",18446744073709551615]") ≡ Some (const.F64 18446744073709551615)
unfolding serde_json_on_literals is_utf8 chars
float_64 = refl

vector : reading constant_of (codes "[\"v128.hex\",\"000000000000000000000000000001fF\"]") ≡ Some (const.V128 511)
unfolding serde_json_on_literals hex_on_literals is_utf8 chars
vector = refl

null_function : reading constant_of (codes "[\"ref.null\",\"func\"]") ≡ Some (const.RefNull top.Func)
unfolding serde_json_on_literals is_utf8 chars
null_function = refl

null_extern : reading constant_of (codes "[\"ref.null\",\"extern\"]") ≡ Some (const.RefNull top.Extern)
unfolding serde_json_on_literals is_utf8 chars
null_extern = refl

null_any : reading constant_of (codes "[\"ref.null\",\"any\"]") ≡ Some (const.RefNull top.Any)
unfolding serde_json_on_literals is_utf8 chars
null_any = refl

-- no other heap type is named there
null_of_no_top : reading constant_of (codes "[\"ref.null\",\"eq\"]") ≡ None
unfolding serde_json_on_literals is_utf8 chars
null_of_no_top = refl

function_reference : reading constant_of (codes "[\"ref.func\",4294967295]") ≡ Some (const.RefFunc 4294967295)
unfolding serde_json_on_literals is_utf8 chars
function_reference = refl

past_the_indices : reading constant_of (codes "[\"ref.func\",4294967296]") ≡ None
unfolding serde_json_on_literals is_utf8 chars
past_the_indices = refl

value_of_a_global : reading constant_of (codes "[\"global.get\",3]") ≡ Some (const.GlobalGet 3)
unfolding serde_json_on_literals is_utf8 chars
value_of_a_global = refl

-- a constant has just one immediate
two_numbers : reading constant_of (codes "[\"i32.const\",1,2]") ≡ None
unfolding serde_json_on_literals is_utf8 chars
two_numbers = refl

no_number : reading constant_of (codes "[\"i32.const\"]") ≡ None
unfolding serde_json_on_literals is_utf8 chars
no_number = refl

-- ---- instructions

nop : reading plainly (codes "[\"nop\"]") ≡ Some i.Nop
unfolding serde_json_on_literals is_utf8 chars name_of
nop = refl

operator : reading plainly (codes "[\"i64.extend32_s\"]") ≡ Some (i.Unary un.I64Extend32S)
unfolding serde_json_on_literals is_utf8 chars name_of
operator = refl

operator_of_two : reading plainly (codes "[\"i32.div_u\"]") ≡ Some (i.Binary bin.I32DivU)
unfolding serde_json_on_literals is_utf8 chars name_of
operator_of_two = refl

label : reading plainly (codes "[\"br_if\",2]") ≡ Some (i.BrIf 2)
unfolding serde_json_on_literals is_utf8 chars name_of
label = refl

-- two indices stand in the order of the fields
indirect : reading plainly (codes "[\"call_indirect\",1,0]") ≡ Some (i.CallIndirect 1 0)
unfolding serde_json_on_literals is_utf8 chars name_of
indirect = refl

copied : reading plainly (codes "[\"table.copy\",4,5]") ≡ Some (i.TableCopy 4 5)
unfolding serde_json_on_literals is_utf8 chars name_of
copied = refl

from_a_segment : reading plainly (codes "[\"memory.init\",0,7]") ≡ Some (i.MemoryInit 0 7)
unfolding serde_json_on_literals is_utf8 chars name_of
from_a_segment = refl

-- a load and a store have the memory, then the offset
a_load : reading plainly (codes "[\"i32.load8_u\",1,16]") ≡ Some (i.Load load.I32Load8U 1 16)
unfolding serde_json_on_literals is_utf8 chars name_of
a_load = refl

a_store : reading plainly (codes "[\"i64.store32\",0,4294967295]") ≡ Some (i.Store store.I64Store32 0 4294967295)
unfolding serde_json_on_literals is_utf8 chars name_of
a_store = refl

constant_32 : reading plainly (codes "[\"i32.const\",-1]") ≡ Some (i.Const32 (negsuc 0))
unfolding serde_json_on_literals is_utf8 chars name_of
constant_32 = refl

constant_64 : reading plainly (codes "[\"i64.const\",5]") ≡ Some (i.Const64 (pos 5))
unfolding serde_json_on_literals is_utf8 chars name_of
constant_64 = refl

null : reading plainly (codes "[\"ref.null\",\"any\"]") ≡ Some (i.RefNull top.Any)
unfolding serde_json_on_literals is_utf8 chars name_of
null = refl

unknown : reading plainly (codes "[\"f32.add\"]") ≡ None
unfolding serde_json_on_literals is_utf8 chars name_of
unknown = refl

-- just so many immediates
one_more : reading plainly (codes "[\"nop\",0]") ≡ None
unfolding serde_json_on_literals is_utf8 chars name_of
one_more = refl

one_fewer : reading plainly (codes "[\"i32.load\",0]") ≡ None
unfolding serde_json_on_literals is_utf8 chars name_of
one_fewer = refl

no_head : reading plainly (codes "[]") ≡ None
unfolding serde_json_on_literals is_utf8 chars name_of
no_head = refl

no_list : reading plainly (codes "\"nop\"") ≡ None
unfolding serde_json_on_literals is_utf8 chars name_of
no_list = refl

-- ---- code, as the body of a function of type 7

empty_code : reading body (codes "[]") ≡ Some (record { blocks = block 7 [] ∷ []; targets = [] })
unfolding serde_json_on_literals is_utf8 chars name_of code_to
empty_code = refl

straight_code : reading body (codes "[[\"local.get\",0],[\"i32.const\",1],[\"i32.add\"]]") ≡ Some (record { blocks = block 7 (i.LocalGet 0 ∷ i.Const32 (pos 1) ∷ i.Binary bin.I32Add ∷ []) ∷ []; targets = [] })
unfolding serde_json_on_literals is_utf8 chars name_of code_to
straight_code = refl

a_block : reading body (codes "[[\"block\",3,[[\"br\",0]]],[\"drop\"]]") ≡ Some (record { blocks = block 7 (i.Block 1 ∷ i.Drop ∷ []) ∷ block 3 (i.Br 0 ∷ []) ∷ []; targets = [] })
unfolding serde_json_on_literals is_utf8 chars name_of code_to
a_block = refl

a_loop : reading body (codes "[[\"loop\",3,[[\"br\",0]]]]") ≡ Some (record { blocks = block 7 (i.Loop 1 ∷ []) ∷ block 3 (i.Br 0 ∷ []) ∷ []; targets = [] })
unfolding serde_json_on_literals is_utf8 chars name_of code_to
a_loop = refl

an_if : reading body (codes "[[\"if\",3,[[\"nop\"]],[[\"return\"]]]]") ≡ Some (record { blocks = block 7 (i.If 1 2 ∷ []) ∷ block 3 (i.Nop ∷ []) ∷ block 3 (i.Return ∷ []) ∷ []; targets = [] })
unfolding serde_json_on_literals is_utf8 chars name_of code_to
an_if = refl

-- the last label stands apart
a_branch_table : reading body (codes "[[\"br_table\",[0,2],1]]") ≡ Some (record { blocks = block 7 (i.BrTable 0 ∷ []) ∷ []; targets = (0 ∷ 2 ∷ 1 ∷ []) ∷ [] })
unfolding serde_json_on_literals is_utf8 chars name_of code_to
a_branch_table = refl

no_other_label : reading body (codes "[[\"br_table\",[],0]]") ≡ Some (record { blocks = block 7 (i.BrTable 0 ∷ []) ∷ []; targets = (0 ∷ []) ∷ [] })
unfolding serde_json_on_literals is_utf8 chars name_of code_to
no_other_label = refl

-- blocks are numbered as their lists begin, an outer one before those within, and target lists in their order
nested : reading body (codes "[[\"block\",1,[[\"loop\",2,[]],[\"br_table\",[1],0]]],[\"if\",3,[[\"block\",4,[]]],[[\"br_table\",[],5]]],[\"loop\",6,[]]]") ≡ Some (record { blocks = block 7 (i.Block 1 ∷ i.If 3 5 ∷ i.Loop 6 ∷ []) ∷ block 1 (i.Loop 2 ∷ i.BrTable 0 ∷ []) ∷ block 2 [] ∷ block 3 (i.Block 4 ∷ []) ∷ block 4 [] ∷ block 3 (i.BrTable 1 ∷ []) ∷ block 6 [] ∷ []; targets = (1 ∷ 0 ∷ []) ∷ (5 ∷ []) ∷ [] })
unfolding serde_json_on_literals is_utf8 chars name_of code_to
nested = refl

no_second_list : reading body (codes "[[\"if\",3,[]]]") ≡ None
unfolding serde_json_on_literals is_utf8 chars name_of code_to
no_second_list = refl

code_that_is_no_list : reading body (codes "[[\"block\",3,\"nop\"]]") ≡ None
unfolding serde_json_on_literals is_utf8 chars name_of code_to
code_that_is_no_list = refl

label_that_is_no_index : reading body (codes "[[\"br_table\",[-1],0]]") ≡ None
unfolding serde_json_on_literals is_utf8 chars name_of code_to
label_that_is_no_index = refl
