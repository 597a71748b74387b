-- What the walk answers, in the terms of the typing of code.
use Rattle.std.specs.Prelude.{ℕ, Bool, true, false, List, [], length, nat_eq, slice_get, Option, option_map}
use Rattle.std.specs.Borrow.{Bor}
use Rattle.wasm_types.specs.declared.value_types.ValType.{ValType}
use Rattle.wasm_syntax.specs.declared.instr.Instr.{Instr}
use Rattle.wasm_syntax.specs.declared.instr.Instr.TheVariants as i
use Rattle.wasm_types.specs.Signatures.{Signature}
use Rattle.wasm_types.specs.FunctionParts.{params, results}
use Rattle.wasm_syntax.specs.declared.declarations.Block.{Block}
use Rattle.wasm_syntax.specs.Contexts.{Context}
use Rattle.wasm_syntax.specs.Typing as typing
use Rattle.wasm_syntax.specs.Typing.{Typed, Inner, there, given, want_all, onto, on_table, on_memory, on_elements, on_data, on_block, inside, type_one}
use Rattle.module_typing.specs.declared.named.Named.{Named}
use Rattle.module_typing.specs.declared.named.Named.TheVariants as named
use Rattle.module_typing.specs.declared.nested.Nested.{Nested}
use Rattle.module_typing.specs.declared.nested.Nested.TheVariants as nested
use Rattle.module_typing.specs.declared.reach.Reach.{Reach}
use Rattle.module_typing.specs.declared.reach.Reach.TheVariants as reach

-- the typing that an answer and the operands behind it tell; this project's own
abbrev pub typed_as : Reach → List ValType → Typed
typed_as reach.Reached ts = typing.Reached ts
typed_as reach.Unreached ts = typing.Unreached
typed_as reach.IllTyped ts = typing.IllTyped

-- no inner code
abbrev pub no_inner : Inner
no_inner labels ts is = typing.IllTyped

-- the context in which nothing has a name
abbrev pub nowhere : Context
nowhere = record {
  spaces = record { types = []; functions = []; tables = []; memories = []; globals = []; elements = []; datas = [] };
  locals = [];
  results = [];
  blocks = [];
  targets = [];
}

-- the typing of an instruction that names no block; this project's own
abbrev pub branching : Context → List (List ValType) → Instr → List ValType → Typed
branching c labels i ts = type_one c no_inner labels i ts

-- the typing of an instruction that names neither a block nor a label; this project's own
abbrev pub alone : Context → Instr → List ValType → Typed
alone c i ts = branching c [] i ts

-- both branches of an `if`, of types t and with these operands; and an `if` behind its condition
abbrev pub both_branches : Context → Inner → List (List ValType) → Block → Block → Signature → List ValType → Typed
both_branches c inner labels block other t us =
    want_all (params t) us (λ rest.
    inside c inner labels (results t) block t (inside c inner labels (results t) other t (typing.Reached (onto (results t) rest))))

abbrev pub behind_condition : Context → Inner → List (List ValType) → ℕ → ℕ → List ValType → Typed
behind_condition c inner labels a b us =
    on_block c a (λ block t. on_block c b (λ other u.
    given (nat_eq block.ty other.ty) (both_branches c inner labels block other t us)))

-- one label of a branch table: it is there, carries n types, and the operands match them; this project's own
abbrev pub want_label : List (List ValType) → ℕ → ℕ → List ValType → Typed → Typed
want_label labels n l ts next =
    there (slice_get labels l) (λ label. given (nat_eq (length label) n) (want_all label ts (λ rest. next)))

-- what two references lead to, where they are there; this project's own
abbrev pub pair_seen : {A B : Type 0} → Option (Bor A × Bor B) → Option (A × B)
pair_seen refs = option_map (λ p. (p.0.now, p.1.now)) refs

-- a memory, a table or a segment is there, whatever it is; this project's own
abbrev pub on_named : Context → Named → Typed → Typed
on_named c (named.Memory k) t = on_memory c k t
on_named c (named.Table k) t = on_table c k (λ table. t)
on_named c (named.Data k) t = on_data c k t
on_named c (named.Elements k) t = on_elements c k (λ from. t)

-- the instruction that names these blocks, and whether an instruction names any; this project's own
abbrev pub nested_instr : Nested → Instr
nested_instr (nested.Block b) = i.Block b
nested_instr (nested.Loop b) = i.Loop b
nested_instr (nested.If a b) = i.If a b

abbrev pub names_block : Instr → Bool
names_block (i.Block b) = true
names_block (i.Loop b) = true
names_block (i.If a b) = true
names_block _ = false
