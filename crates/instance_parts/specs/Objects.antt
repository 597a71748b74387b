-- The new objects of an instance, as code has them: those that instantiation appends to a store, where the segments of the
-- module that lead are taken.
-- WebAssembly core specification, "Execution, modules, allocation"
use Rattle.std.specs.Prelude.{◌≡◌, ℕ, Bool, if◌then◌else◌, List}
use Rattle.wasm_syntax.specs.declared.declarations.ModuleDecl.{ModuleDecl}
use Rattle.wasm_values.specs.declared.externals.Extern.{Extern}
use Rattle.wasm_objects.specs.Objects.{memories_of, tables_of}
use Rattle.wasm_objects.specs.declared.raw.RawVal.{RawVal}
use Rattle.spec_machine.specs.Machine.{Machine}
use Rattle.spec_execution.specs.Allocation.{table_numbers, memory_numbers, tag_numbers, new_globals, new_tags, new_functions}
use Rattle.store_state.specs.Machine.{instance_of}
use Rattle.store_state.specs.Parts.{Names, names, segment_parts}
use Rattle.store_state.specs.declared.additions.NewObjects.{NewObjects}
use Rattle.wasm_module.specs.Images.{leading_elements, table_images}
use Rattle.law_images.specs.Leading.{imaged_tables, led_tables, led_memories, left_elements, kept_elements, kept_datas, begun_instance}

-- what an instance names, over the numbers of its functions and those of its globals
abbrev pub names_with : Machine → ModuleDecl → List Extern → List ℕ → List ℕ → Names
names_with m d imports fs gs =
    names d fs (table_numbers m d imports) (memory_numbers m d imports) gs (tag_numbers m d imports)

-- what a segment begins with: where it leads what taking it leaves, and else all of it
abbrev pub first_of : {Declared Item : Type 0} → Bool → (Declared → List Item) → (Declared → List Item) → Declared → List Item
first_of leads kept whole declared = if leads then kept declared else whole declared

-- ---- all of them

-- these are the new objects of an instance in a store
pub record AreNew (m : Machine) (d : ModuleDecl) (imports : List Extern) (o : NewObjects) : Type 0 where
  pub memories : memories_of o.memories.items ≡ led_memories d
  pub tables : tables_of o.tables.items ≡ led_tables m d imports
  pub globals : o.globals.items ≡ new_globals m d imports
  pub tags : o.tags.items ≡ new_tags d
  pub functions : o.functions.items ≡ new_functions m d
  pub instance : instance_of o.instance o.segments ≡ begun_instance m d imports (kept_elements m d imports) (kept_datas d)

-- they are so many and of such a size as the module declares
pub record AreShaped (d : ModuleDecl) (o : NewObjects) : Type 0 where
  pub functions : List ℕ
  pub imported : List RawVal
  pub values : List RawVal
  pub memories : memories_of o.memories.items ≡ led_memories d
  pub tables : tables_of o.tables.items ≡ imaged_tables functions imported d.tables (table_images d)
  pub segments : o.segments
      ≡ segment_parts (left_elements functions values (leading_elements d) d.elements) (kept_datas d)
