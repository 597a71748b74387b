-- Worked examples of typing, each by computation.
use Rattle.std.proofs.Common.{◌≡◌, [], ◌∷◌, refl, pos}
use Rattle.wasm_types.specs.FunctionParts.{nullable_ref}
use Rattle.wasm_types.specs.declared.plain.HeapTopType.TheVariants as top
use Rattle.wasm_types.specs.declared.value_types.HeapType.TheVariants as h
use Rattle.wasm_types.specs.declared.value_types.ValType.TheVariants as v
use Rattle.wasm_syntax.specs.Constants.{function_ref}
use Rattle.wasm_syntax.specs.Typing.{Reached, Unreached, IllTyped, i32}
use Rattle.wasm_syntax.specs.declared.accesses.LoadOp.TheVariants as load
use Rattle.wasm_syntax.specs.declared.accesses.StoreOp.TheVariants as store
use Rattle.wasm_syntax.specs.declared.instr.Instr.{Instr}
use Rattle.wasm_syntax.specs.declared.instr.Instr.TheVariants as i
use Rattle.wasm_syntax.specs.declared.operators.BinOp.TheVariants as bin
use Rattle.wasm_syntax.specs.declared.operators.UnOp.TheVariants as un
use Rattle.wasm_syntax.proofs.Samples.{block, quiet, type_in, type_of}

abbrev one : Instr
one = i.Const32 (pos 1)

abbrev long : Instr
long = i.Const64 (pos 1)

-- operands are pushed from left to right, and the last is the first of the types
pushes : type_of (one ∷ long ∷ []) ≡ Reached (v.I64 ∷ v.I32 ∷ [])
pushes = refl

adds : type_of (one ∷ one ∷ i.Binary bin.I32Add ∷ []) ≡ Reached (i32 ∷ [])
adds = refl

adds_other_types : type_of (one ∷ long ∷ i.Binary bin.I32Add ∷ []) ≡ IllTyped
adds_other_types = refl

tests_zero : type_of (one ∷ i.Unary un.I32Eqz ∷ []) ≡ Reached (i32 ∷ [])
tests_zero = refl

drops_nothing : type_of (i.Drop ∷ []) ≡ IllTyped
drops_nothing = refl

selects : type_of (long ∷ long ∷ one ∷ i.Select ∷ []) ≡ Reached (v.I64 ∷ [])
selects = refl

selects_references : type_of (i.RefNull top.Func ∷ i.RefNull top.Func ∷ one ∷ i.Select ∷ []) ≡ IllTyped
selects_references = refl

-- the parameter, then the local
reads_locals : type_of (i.LocalGet 0 ∷ i.LocalGet 1 ∷ []) ≡ Reached (v.I64 ∷ v.I32 ∷ [])
reads_locals = refl

reads_no_local : type_of (i.LocalGet 2 ∷ []) ≡ IllTyped
reads_no_local = refl

tees : type_of (long ∷ i.LocalTee 1 ∷ i.LocalSet 1 ∷ []) ≡ Reached []
tees = refl

sets_a_variable : type_of (long ∷ i.GlobalSet 1 ∷ []) ≡ Reached []
sets_a_variable = refl

sets_a_constant : type_of (one ∷ i.GlobalSet 0 ∷ []) ≡ IllTyped
sets_a_constant = refl

loads : type_of (one ∷ i.Load load.I64Load8S 0 4 ∷ []) ≡ Reached (v.I64 ∷ [])
loads = refl

stores : type_of (one ∷ long ∷ i.Store store.I64Store32 0 0 ∷ []) ≡ Reached []
stores = refl

stores_in_no_memory : type_of (one ∷ long ∷ i.Store store.I64Store32 1 0 ∷ []) ≡ IllTyped
stores_in_no_memory = refl

fills_a_memory : type_of (one ∷ one ∷ one ∷ i.MemoryFill 0 ∷ i.DataDrop 0 ∷ []) ≡ Reached []
fills_a_memory = refl

null_is_of_the_bottom : type_of (i.RefNull top.Extern ∷ []) ≡ Reached (nullable_ref h.NoExtern ∷ [])
null_is_of_the_bottom = refl

refers_to_a_function : type_of (i.RefFunc 0 ∷ []) ≡ Reached (function_ref quiet ∷ [])
refers_to_a_function = refl

tests_a_reference : type_of (i.RefFunc 0 ∷ i.RefIsNull ∷ []) ≡ Reached (i32 ∷ [])
tests_a_reference = refl

tests_a_number : type_of (one ∷ i.RefIsNull ∷ []) ≡ IllTyped
tests_a_number = refl

-- a null of functions and a function may stand in a table of functions, a null of externs may not
sets_an_element : type_of (one ∷ i.RefFunc 0 ∷ i.TableSet 0 ∷ one ∷ i.RefNull top.Func ∷ i.TableSet 0 ∷ []) ≡ Reached []
sets_an_element = refl

sets_an_extern : type_of (one ∷ i.RefNull top.Extern ∷ i.TableSet 0 ∷ []) ≡ IllTyped
sets_an_extern = refl

-- the element stands below the number of elements
grows_a_table : type_of (i.RefNull top.Func ∷ one ∷ i.TableGrow 0 ∷ []) ≡ Reached (i32 ∷ [])
grows_a_table = refl

copies_other_elements : type_of (one ∷ one ∷ one ∷ i.TableCopy 1 0 ∷ []) ≡ IllTyped
copies_other_elements = refl

-- nulls may stand among functions, and not the other way round
copies_nulls : type_of (one ∷ one ∷ one ∷ i.TableCopy 0 2 ∷ []) ≡ Reached []
copies_nulls = refl

copies_over_nulls : type_of (one ∷ one ∷ one ∷ i.TableCopy 2 0 ∷ []) ≡ IllTyped
copies_over_nulls = refl

writes_a_segment : type_of (one ∷ one ∷ one ∷ i.TableInit 0 0 ∷ i.ElemDrop 0 ∷ []) ≡ Reached []
writes_a_segment = refl

calls : type_of (i.Call 0 ∷ []) ≡ Reached []
calls = refl

calls_indirectly : type_of (one ∷ one ∷ i.CallIndirect 2 0 ∷ []) ≡ Reached (i32 ∷ [])
calls_indirectly = refl

calls_an_extern : type_of (one ∷ one ∷ i.CallIndirect 2 1 ∷ []) ≡ IllTyped
calls_an_extern = refl

-- what stands behind `unreachable`, a branch or `return` is not looked at
after_unreachable : type_of (i.Unreachable ∷ i.Drop ∷ i.LocalGet 9 ∷ []) ≡ Unreached
after_unreachable = refl

after_branch : type_of (i.Br 0 ∷ i.Drop ∷ []) ≡ Unreached
after_branch = refl

returns : type_of (one ∷ i.Return ∷ i.Drop ∷ []) ≡ Unreached
returns = refl

returns_nothing : type_of (i.Return ∷ []) ≡ IllTyped
returns_nothing = refl

-- a branch drops what is below the label's operands
branches_over_operands : type_of (long ∷ one ∷ i.Br 1 ∷ []) ≡ Unreached
branches_over_operands = refl

branches_too_far : type_of (one ∷ i.Br 2 ∷ []) ≡ IllTyped
branches_too_far = refl

-- the label's operands stay
branches_if : type_of (one ∷ one ∷ i.BrIf 1 ∷ []) ≡ Reached (i32 ∷ [])
branches_if = refl

branches_by_table : type_in [] (1 ∷ 1 ∷ []) (one ∷ one ∷ i.BrTable 0 ∷ []) ≡ Unreached
branches_by_table = refl

-- one label carries nothing and the other a number
branches_by_a_bad_table : type_in [] (1 ∷ 0 ∷ []) (one ∷ one ∷ i.BrTable 0 ∷ []) ≡ IllTyped
branches_by_a_bad_table = refl

branches_by_an_empty_table : type_in [] [] (one ∷ i.BrTable 0 ∷ []) ≡ IllTyped
branches_by_an_empty_table = refl

-- a block of type i32 -> i32, over an operand that it leaves
enters_a_block : type_in (block 2 [] ∷ block 2 (one ∷ i.Binary bin.I32Add ∷ []) ∷ []) [] (long ∷ one ∷ i.Block 1 ∷ []) ≡ Reached (v.I32 ∷ v.I64 ∷ [])
enters_a_block = refl

-- it sees its parameters alone
reaches_below_a_block : type_in (block 2 [] ∷ block 0 (i.Drop ∷ []) ∷ []) [] (one ∷ i.Block 1 ∷ []) ≡ IllTyped
reaches_below_a_block = refl

leaves_an_operand_more : type_in (block 2 [] ∷ block 0 (one ∷ []) ∷ []) [] (i.Block 1 ∷ []) ≡ IllTyped
leaves_an_operand_more = refl

-- behind a block that never reaches its end, code goes on with its results
goes_on_behind_a_stop : type_in (block 2 [] ∷ block 1 (i.Unreachable ∷ []) ∷ []) [] (i.Block 1 ∷ i.Drop ∷ []) ≡ Reached []
goes_on_behind_a_stop = refl

-- the label of a block carries its results, the label of a loop its parameters
branches_out_of_a_block : type_in (block 2 [] ∷ block 1 (one ∷ i.Br 0 ∷ []) ∷ []) [] (i.Block 1 ∷ []) ≡ Reached (i32 ∷ [])
branches_out_of_a_block = refl

branches_to_a_loop : type_in (block 2 [] ∷ block 1 (i.Br 0 ∷ []) ∷ []) [] (i.Loop 1 ∷ []) ≡ Reached (i32 ∷ [])
branches_to_a_loop = refl

branches_out_with_nothing : type_in (block 2 [] ∷ block 1 (i.Br 0 ∷ []) ∷ []) [] (i.Block 1 ∷ []) ≡ IllTyped
branches_out_with_nothing = refl

-- the labels outside are one further out
branches_through_a_block : type_in (block 2 [] ∷ block 0 (one ∷ i.Br 2 ∷ []) ∷ []) [] (i.Block 1 ∷ []) ≡ Reached []
branches_through_a_block = refl

chooses : type_in (block 2 [] ∷ block 1 (one ∷ []) ∷ block 1 (i.Unreachable ∷ []) ∷ []) [] (one ∷ i.If 1 2 ∷ []) ≡ Reached (i32 ∷ [])
chooses = refl

-- both blocks are of one type number
chooses_other_types : type_in (block 2 [] ∷ block 0 [] ∷ block 1 (one ∷ []) ∷ []) [] (one ∷ i.If 1 2 ∷ []) ≡ IllTyped
chooses_other_types = refl

chooses_a_bad_block : type_in (block 2 [] ∷ block 1 (one ∷ []) ∷ block 1 [] ∷ []) [] (one ∷ i.If 1 2 ∷ []) ≡ IllTyped
chooses_a_bad_block = refl
