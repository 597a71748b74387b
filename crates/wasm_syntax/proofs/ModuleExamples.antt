-- Worked examples of declarations that break no rule and are no module, since a type in them is none.
use Rattle.std.proofs.Common.{◌≡◌, true, [], ◌∷◌, Some, None, refl, sym, true≢false}
use Rattle.wasm_types.specs.MemoryTypes.{memory_parts}
use Rattle.wasm_types.specs.TableTypes.{table_parts}
use Rattle.wasm_types.specs.FunctionParts.{ref_type}
use Rattle.wasm_types.specs.declared.plain.HeapTopType.TheVariants as top
use Rattle.wasm_types.specs.declared.value_types.HeapType.TheVariants as h
use Rattle.wasm_syntax.specs.FirstBroken.{broken, first_broken}
use Rattle.wasm_syntax.specs.Modules.{IsModule}
use Rattle.wasm_syntax.specs.declared.constants.ConstExpr.TheVariants as k
use Rattle.wasm_syntax.specs.declared.declarations.ModuleDecl.{ModuleDecl}
use Rattle.wasm_syntax.proofs.Samples.{full, no_items}

-- a memory, and a table, whose minimum is past its maximum
abbrev with_memory : ModuleDecl
with_memory = record full { memories = memory_parts 2 (Some 1) 16 ∷ [] }

memory_breaks_no_rule : first_broken with_memory ≡ None
unfolding broken
memory_breaks_no_rule = refl

memory_is_no_type : IsModule with_memory → ⊥
memory_is_no_type m = true≢false (sym (m.memories_are 0 (memory_parts 2 (Some 1) 16) refl))

abbrev with_table : ModuleDecl
with_table = record no_items {
  tables = record { ty = table_parts (ref_type true h.Extern) 2 (Some 1); init = k.RefNull top.Extern } ∷ [];
}

table_breaks_no_rule : first_broken with_table ≡ None
unfolding broken
table_breaks_no_rule = refl

table_is_no_type : IsModule with_table → ⊥
table_is_no_type m =
    true≢false (sym (m.tables_are 0 (record { ty = table_parts (ref_type true h.Extern) 2 (Some 1); init = k.RefNull top.Extern }) refl).0)
