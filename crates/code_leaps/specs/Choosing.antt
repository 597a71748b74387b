-- The table of an indirect call, and the function in its element.
-- WebAssembly core specification, "Execution, instructions, control instructions", call_indirect
use Rattle.std.specs.Prelude.{◌≡◌, ℕ, slice_get, Option, Some, option_and_then, true}
use Rattle.wasm_types.specs.Matching.{matches}
use Rattle.wasm_types.specs.Signatures.{Signature}
use Rattle.wasm_objects.specs.Tables.{Table}
use Rattle.wasm_objects.specs.declared.raw.RawRef.TheVariants as r
use Rattle.store_state.specs.Machine.{table_number, type_named}
use Rattle.store_state.specs.Parts.{ProgramParts, HeldParts}
use Rattle.code_stack.specs.declared.layers.Activation.{Activation}

-- the table that an instance names under an index
abbrev pub table_in : ProgramParts → HeldParts → ℕ → ℕ → Option Table
table_in program held instance k =
    option_and_then (λ n. slice_get held.tables n) (table_number program instance k)

-- the function of this number is the element at the place of a table, and its type matches the one that is wanted
pub record IsElement (program : ProgramParts) (held : HeldParts) (a : Activation) (ty k place n : ℕ) : Type 0 where
  pub wanted : Signature
  pub own : Signature
  pub table : Table
  pub wanted_is : Some wanted ≡ slice_get a.«module».now.types ty
  pub table_is : Some table ≡ table_in program held a.instance k
  pub there : Some (r.Func n) ≡ slice_get table.elements place
  pub own_is : Some own ≡ type_named program n
  pub same : matches own wanted ≡ true
