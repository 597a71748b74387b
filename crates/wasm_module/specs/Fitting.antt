-- Images that fit the objects that they are of, as they do while segments are taken. This project's own.
use Rattle.std.specs.Prelude.{ℕ, ◌*◌, ◌≡◌, ◌≤◌, List, length, slice_get, Some}
use Rattle.std.specs.List.{sum_by}
use Rattle.wasm_types.specs.MemoryTypes.{MemoryParts, page_size}
use Rattle.wasm_types.specs.declared.plain.Cell.{Cell}
use Rattle.wasm_syntax.specs.declared.declarations.ModuleDecl.{ModuleDecl}
use Rattle.wasm_syntax.specs.declared.declarations.TableDecl.{TableDecl}
use Rattle.wasm_module.specs.Images.{most_cells, most_bytes}

-- one for each object, no longer than so much together, and each no longer than its object is at first
pub record AreImages {A Object : Type 0} (size_of : Object → ℕ) (most : ℕ) (objects : List Object) (images : List (List A)) : Type 0 where
  pub one_each : length images ≡ length objects
  pub limited : sum_by length images ≤ most
  pub fits : (k : ℕ) (image : List A) (object : Object) → slice_get images k ≡ Some image → slice_get objects k ≡ Some object → length image ≤ size_of object

abbrev pub table_size : TableDecl → ℕ
table_size t = t.ty.minimum

abbrev pub AreTables : ModuleDecl → List (List Cell) → Type 0
AreTables d images = AreImages table_size most_cells d.tables images

abbrev pub memory_size : MemoryParts → ℕ
memory_size ty = ty.minimum * page_size ty

abbrev pub AreMemories : ModuleDecl → List (List ℕ) → Type 0
AreMemories d images = AreImages memory_size most_bytes d.memories images
