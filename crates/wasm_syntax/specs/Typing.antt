-- When code is well typed. Code behind an instruction that never goes on is not typed; this project's own.
-- WebAssembly core specification, "Validation, Instructions"
use Rattle.std.specs.Prelude.{ℕ, zero, suc, Bool, true, false, List, [], ◌∷◌, ◌++◌, length, reverse, Option, Some, None, nat_eq, slice_get}
use Rattle.wasm_types.specs.Signatures.{Signature}
use Rattle.wasm_types.specs.FunctionParts.{params, results, ref_type}
use Rattle.wasm_types.specs.GlobalTypes.{GlobalParts}
use Rattle.wasm_types.specs.Matching.{val_matches, ref_matches, all_match}
use Rattle.wasm_types.specs.TableTypes.{TableParts}
use Rattle.wasm_types.specs.declared.plain.Mutability.{Mutability}
use Rattle.wasm_types.specs.declared.plain.Mutability.TheVariants.{Const, Var}
use Rattle.wasm_types.specs.declared.value_types.HeapType.TheVariants as h
use Rattle.wasm_types.specs.declared.value_types.RefType.{RefType}
use Rattle.wasm_types.specs.declared.value_types.ValType.{ValType}
use Rattle.wasm_types.specs.declared.value_types.ValType.TheVariants as v
use Rattle.wasm_syntax.specs.Constants.{null_type, function_ref}
use Rattle.wasm_syntax.specs.Contexts.{Context, context, function_type}
use Rattle.wasm_syntax.specs.Instructions.{load_type, store_type}
use Rattle.wasm_syntax.specs.Operators.{unary_operand, unary_result, binary_operands, binary_result}
use Rattle.wasm_syntax.specs.declared.declarations.Block.{Block}
use Rattle.wasm_syntax.specs.declared.declarations.FuncDecl.{FuncDecl}
use Rattle.wasm_syntax.specs.declared.declarations.ModuleDecl.{ModuleDecl}
use Rattle.wasm_syntax.specs.declared.instr.Instr.{Instr}
use Rattle.wasm_syntax.specs.declared.instr.Instr.TheVariants as i

-- the types of the operands behind code, the topmost first; or that its end is never reached; or that it is badly typed
pub data Typed : Type 0 where
  Reached : List ValType → Typed
  Unreached : Typed
  IllTyped : Typed

-- The combinators, this project's own: each has one way to go on, and is bad otherwise.
-- what is there under an index
abbrev pub there : {A : Type 0} → Option A → (A → Typed) → Typed
there None go = IllTyped
there (Some a) go = go a

-- a condition
abbrev pub given : Bool → Typed → Typed
given true t = t
given false t = IllTyped

-- an operand of any type on top
abbrev pub want_any : List ValType → (ValType → List ValType → Typed) → Typed
want_any [] go = IllTyped
want_any (t ∷ ts) go = go t ts

-- an operand on top that matches a type
abbrev pub want : ValType → List ValType → (List ValType → Typed) → Typed
want wanted ts go = want_any ts (λ t rest. given (val_matches t wanted) (go rest))

-- operands that match types, the topmost first
abbrev pub want_from_top : List ValType → List ValType → (List ValType → Typed) → Typed
want_from_top [] ts go = go ts
want_from_top (wanted ∷ more) ts go = want wanted ts (λ rest. want_from_top more rest go)

-- operands that match types, the last on top
abbrev pub want_all : List ValType → List ValType → (List ValType → Typed) → Typed
want_all wanted ts go = want_from_top (reverse wanted) ts go

-- types over others, the last on top
abbrev pub onto : List ValType → List ValType → List ValType
onto new ts = reverse new ++ ts

-- operands of the first types, and in their place the second types
abbrev pub from_to : List ValType → List ValType → List ValType → Typed
from_to old new ts = want_all old ts (λ rest. Reached (onto new rest))

-- an operand of a number type or the vector type, of a reference type
abbrev pub is_number : ValType → Bool
is_number (v.Ref r) = false
is_number _ = true

abbrev pub is_reference : ValType → Bool
is_reference (v.Ref r) = true
is_reference _ = false

abbrev pub want_number : List ValType → (ValType → List ValType → Typed) → Typed
want_number ts go = want_any ts (λ t rest. given (is_number t) (go t rest))

abbrev pub want_reference : List ValType → (List ValType → Typed) → Typed
want_reference ts go = want_any ts (λ t rest. given (is_reference t) (go rest))

-- a label, from the innermost outwards, and the types that it carries
abbrev pub on_label : List (List ValType) → ℕ → (List ValType → Typed) → Typed
on_label labels l go = there (slice_get labels l) go

-- labels that are all there, carry n types each, and whose types the operands match; then the code stops
abbrev pub want_labels : List (List ValType) → ℕ → List ℕ → List ValType → Typed
want_labels labels n [] ts = Unreached
want_labels labels n (l ∷ ls) ts =
    on_label labels l (λ label. given (nat_eq (length label) n) (want_all label ts (λ rest. want_labels labels n ls ts)))

-- whether code stops, or ends with exactly as many operands as results, each matching
abbrev pub ends_in : List ValType → Typed → Bool
ends_in results (Reached ts) = all_match ts (reverse results)
ends_in results Unreached = true
ends_in results IllTyped = false

abbrev pub ends_with : Typed → List ValType → Typed → Typed
ends_with t results next = given (ends_in results t) next

-- one piece of code behind another
abbrev pub typed_then : Typed → (List ValType → Typed) → Typed
typed_then (Reached ts) go = go ts
typed_then Unreached go = Unreached
typed_then IllTyped go = IllTyped

abbrev pub is_variable : Mutability → Bool
is_variable Var = true
is_variable Const = false

abbrev pub function_references : RefType
function_references = ref_type true h.Func

-- the type of an element of a table
abbrev pub element : TableParts → ValType
element t = v.Ref t.element

abbrev pub i32 : ValType
i32 = v.I32

abbrev pub i64 : ValType
i64 = v.I64

-- an address or a length: a number from 0 to 2^32 - 1
abbrev pub address : ValType
address = v.I32

-- the typing of inner code, under labels from the innermost outwards, from the types of operands
abbrev pub Inner : Type 0
Inner = List (List ValType) → List ValType → List Instr → Typed

module _ (c : Context) where
  -- what the code may name, each under its index
  abbrev pub on_type : ℕ → (Signature → Typed) → Typed
  on_type n go = there (slice_get c.spaces.types n) go

  abbrev pub on_function : ℕ → (Signature → Typed) → Typed
  on_function f go = there (function_type c.spaces.functions f) go

  abbrev pub on_table : ℕ → (TableParts → Typed) → Typed
  on_table k go = there (slice_get c.spaces.tables k) go

  abbrev pub on_memory : ℕ → Typed → Typed
  on_memory m t = there (slice_get c.spaces.memories m) (λ memory. t)

  abbrev pub on_global : ℕ → (GlobalParts → Typed) → Typed
  on_global g go = there (slice_get c.spaces.globals g) go

  abbrev pub on_elements : ℕ → (RefType → Typed) → Typed
  on_elements s go = there (slice_get c.spaces.elements s) go

  abbrev pub on_data : ℕ → Typed → Typed
  on_data s t = there (slice_get c.spaces.datas s) (λ segment. t)

  abbrev pub on_local : ℕ → (ValType → Typed) → Typed
  on_local n go = there (slice_get c.locals n) go

  abbrev pub on_targets : ℕ → (List ℕ → Typed) → Typed
  on_targets n go = there (slice_get c.targets n) go

  -- a block of the function, and its type
  abbrev pub on_block : ℕ → (Block → Signature → Typed) → Typed
  on_block b go = there (slice_get c.blocks b) (λ (block : Block). on_type block.ty (λ t. go block t))

  -- a block's code, and then what follows: it sees its own parameters alone, and ends with its results
  -- "Validation, Instructions, Control instructions"
  abbrev pub inside : Inner → List (List ValType) → List ValType → Block → Signature → Typed → Typed
  inside inner labels label block t next =
      ends_with (inner (label ∷ labels) (onto (params t) []) block.instrs) (results t) next

  -- an instruction, under labels, on these operands
  -- "Validation, Instructions": control, reference, parametric, variable, numeric, memory and table instructions
  abbrev pub type_one : Inner → List (List ValType) → Instr → List ValType → Typed
  type_one inner labels i.Unreachable ts = Unreached
  type_one inner labels i.Nop ts = from_to [] [] ts
  type_one inner labels (i.Block b) ts =
      on_block b (λ block t. want_all (params t) ts (λ rest.
      inside inner labels (results t) block t (Reached (onto (results t) rest))))
  type_one inner labels (i.Loop b) ts =
      on_block b (λ block t. want_all (params t) ts (λ rest.
      inside inner labels (params t) block t (Reached (onto (results t) rest))))
  type_one inner labels (i.If a b) ts =
      want i32 ts (λ us. on_block a (λ block t. on_block b (λ other u.
      given (nat_eq block.ty other.ty) (want_all (params t) us (λ rest.
      inside inner labels (results t) block t (
      inside inner labels (results t) other t (Reached (onto (results t) rest))))))))
  type_one inner labels (i.Br l) ts = on_label labels l (λ label. want_all label ts (λ rest. Unreached))
  type_one inner labels (i.BrIf l) ts = want i32 ts (λ us. on_label labels l (λ label. from_to label label us))
  type_one inner labels (i.BrTable n) ts =
      want i32 ts (λ us. on_targets n (λ ls. there (slice_get ls 0) (λ l.
      on_label labels l (λ label. want_labels labels (length label) ls us))))
  type_one inner labels i.Return ts = want_all c.results ts (λ rest. Unreached)
  type_one inner labels (i.Call f) ts = on_function f (λ t. from_to (params t) (results t) ts)
  type_one inner labels (i.CallIndirect n k) ts =
      on_type n (λ t. on_table k (λ table. given (ref_matches table.element function_references) (
      want i32 ts (λ us. from_to (params t) (results t) us))))
  type_one inner labels i.Drop ts = want_any ts (λ t rest. Reached rest)
  type_one inner labels i.Select ts =
      want i32 ts (λ us. want_number us (λ t rest. from_to (t ∷ []) (t ∷ []) rest))
  type_one inner labels (i.LocalGet n) ts = on_local n (λ t. from_to [] (t ∷ []) ts)
  type_one inner labels (i.LocalSet n) ts = on_local n (λ t. from_to (t ∷ []) [] ts)
  type_one inner labels (i.LocalTee n) ts = on_local n (λ t. from_to (t ∷ []) (t ∷ []) ts)
  type_one inner labels (i.GlobalGet g) ts = on_global g (λ global. from_to [] (global.content ∷ []) ts)
  type_one inner labels (i.GlobalSet g) ts =
      on_global g (λ global. given (is_variable global.mutability) (from_to (global.content ∷ []) [] ts))
  type_one inner labels (i.Const32 n) ts = from_to [] (i32 ∷ []) ts
  type_one inner labels (i.Const64 n) ts = from_to [] (i64 ∷ []) ts
  type_one inner labels (i.Unary op) ts = from_to (unary_operand op ∷ []) (unary_result op ∷ []) ts
  type_one inner labels (i.Binary op) ts =
      from_to (binary_operands op ∷ binary_operands op ∷ []) (binary_result op ∷ []) ts
  type_one inner labels (i.Load op m offset) ts = on_memory m (from_to (address ∷ []) (load_type op ∷ []) ts)
  type_one inner labels (i.Store op m offset) ts = on_memory m (from_to (address ∷ store_type op ∷ []) [] ts)
  type_one inner labels (i.MemorySize m) ts = on_memory m (from_to [] (i32 ∷ []) ts)
  type_one inner labels (i.MemoryGrow m) ts = on_memory m (from_to (address ∷ []) (i32 ∷ []) ts)
  type_one inner labels (i.MemoryFill m) ts = on_memory m (from_to (address ∷ i32 ∷ address ∷ []) [] ts)
  type_one inner labels (i.MemoryCopy dst src) ts =
      on_memory dst (on_memory src (from_to (address ∷ address ∷ address ∷ []) [] ts))
  type_one inner labels (i.MemoryInit m s) ts =
      on_memory m (on_data s (from_to (address ∷ address ∷ address ∷ []) [] ts))
  type_one inner labels (i.DataDrop s) ts = on_data s (from_to [] [] ts)
  type_one inner labels (i.RefNull t) ts = from_to [] (null_type t ∷ []) ts
  type_one inner labels i.RefIsNull ts = want_reference ts (λ rest. from_to [] (i32 ∷ []) rest)
  type_one inner labels (i.RefFunc f) ts = on_function f (λ t. from_to [] (function_ref t ∷ []) ts)
  type_one inner labels (i.TableGet k) ts = on_table k (λ table. from_to (address ∷ []) (element table ∷ []) ts)
  type_one inner labels (i.TableSet k) ts = on_table k (λ table. from_to (address ∷ element table ∷ []) [] ts)
  type_one inner labels (i.TableSize k) ts = on_table k (λ table. from_to [] (i32 ∷ []) ts)
  type_one inner labels (i.TableGrow k) ts =
      on_table k (λ table. from_to (element table ∷ address ∷ []) (i32 ∷ []) ts)
  type_one inner labels (i.TableFill k) ts =
      on_table k (λ table. from_to (address ∷ element table ∷ address ∷ []) [] ts)
  type_one inner labels (i.TableCopy dst src) ts =
      on_table dst (λ to. on_table src (λ from. given (ref_matches from.element to.element) (
      from_to (address ∷ address ∷ address ∷ []) [] ts)))
  type_one inner labels (i.TableInit k s) ts =
      on_table k (λ to. on_elements s (λ from. given (ref_matches from to.element) (
      from_to (address ∷ address ∷ address ∷ []) [] ts)))
  type_one inner labels (i.ElemDrop s) ts = on_elements s (λ from. from_to [] [] ts)

  -- instructions one behind another
  -- "Validation, Instructions, Instruction sequences"
  abbrev pub type_list : Inner → List (List ValType) → List ValType → List Instr → Typed
  type_list inner labels ts [] = Reached ts
  type_list inner labels ts (i ∷ is) = typed_then (type_one inner labels i ts) (λ us. type_list inner labels us is)

  -- code that is nested at most n deep
  abbrev pub typing_to : ℕ → Inner
  typing_to zero labels ts is = IllTyped
  typing_to (suc n) labels ts is = type_list (typing_to n) labels ts is

-- code may be nested this deep, the body being at depth 1; this project's own
abbrev pub most_nested : ℕ
most_nested = 256

-- the typing of code, under labels from the innermost outwards, from the types of operands, the topmost first
abbrev pub typing : Context → Inner
typing c = typing_to c most_nested

-- whether the body of a function ends with the function's results: it is typed from no operands, under one label, which
-- carries these results
-- WebAssembly core specification, "Validation, Modules, Functions"
abbrev pub body_fits : Context → Option Block → Bool
body_fits c None = false
body_fits c (Some body) = ends_in c.results (typing c (c.results ∷ []) [] body.instrs)

abbrev pub is_typed : ModuleDecl → FuncDecl → Bool
is_typed d f = body_fits (context d f) (slice_get f.blocks 0)
