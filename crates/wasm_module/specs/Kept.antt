-- What a module keeps of its images: those that are dense, which all together hold at most 8 times what its segments hold. This project's own.
use Rattle.std.specs.Prelude.{ℕ, ◌*◌, List, length, Option}
use Rattle.std.specs.List.{sum_by}
use Rattle.wasm_types.specs.declared.plain.Cell.{Cell}
use Rattle.wasm_syntax.specs.declared.declarations.ModuleDecl.{ModuleDecl}
use Rattle.wasm_syntax.specs.declared.segments.DataDecl.{DataDecl}
use Rattle.wasm_syntax.specs.declared.segments.ElemDecl.{ElemDecl}
use Rattle.wasm_module.specs.Images.{leading_datas, leading_elements, memory_images, table_images, within}

-- how many items the element segments hold, and how many bytes the data segments
abbrev pub items_held : ModuleDecl → ℕ
items_held d = sum_by (λ (e : ElemDecl). length e.items) d.elements

abbrev pub bytes_held : ModuleDecl → ℕ
bytes_held d = sum_by (λ (e : DataDecl). length e.bytes) d.datas

-- the images where they are dense
abbrev pub dense : {A : Type 0} → ℕ → List (List A) → Option (List (List A))
dense held images = within (8 * held) images

abbrev pub kept_tables : ModuleDecl → Option (List (List Cell))
kept_tables d = dense (items_held d) (table_images d)

abbrev pub kept_memories : ModuleDecl → Option (List (List ℕ))
kept_memories d = dense (bytes_held d) (memory_images d)

-- ---- all that is kept: how many segments lead, and what is dense of what they leave

pub record KeptParts : Type 0 where
  pub elements : ℕ
  pub tables : Option (List (List Cell))
  pub datas : ℕ
  pub memories : Option (List (List ℕ))

abbrev pub kept_parts : ℕ → Option (List (List Cell)) → ℕ → Option (List (List ℕ)) → KeptParts
kept_parts elements tables datas memories =
    record { elements = elements; tables = tables; datas = datas; memories = memories }

abbrev pub kept_of : ModuleDecl → KeptParts
kept_of d = kept_parts (leading_elements d) (kept_tables d) (leading_datas d) (kept_memories d)
