-- What a segment that leads tells: which object it writes to, where, and what it leaves in the images.
use Rattle.std.proofs.Common.{◌≡◌, ℕ, ◌+◌, ◌-◌, ◌*◌, ◌≤◌, List, length, set, Option, Some, None, refl, ◌∙◌, arith}
use Rattle.std.specs.Prelude.{slice_get, nat_le, option_map, option_and_then}
use Rattle.std.proofs.lemmas.Bool.{leb-true}
use Rattle.std.proofs.lemmas.Option.{none-some, same_Some, option_and_then_some}
use Rattle.wasm_types.specs.MemoryTypes.{MemoryParts, page_size}
use Rattle.wasm_types.specs.Ranges.{written}
use Rattle.wasm_types.specs.declared.plain.Cell.{Cell}
use Rattle.wasm_types.specs.declared.plain.Cell.TheVariants as cell
use Rattle.wasm_syntax.specs.Contexts.{imported, as_table, as_memory}
use Rattle.wasm_syntax.specs.declared.constants.ConstExpr.{ConstExpr}
use Rattle.wasm_syntax.specs.declared.declarations.ModuleDecl.{ModuleDecl}
use Rattle.wasm_syntax.specs.declared.declarations.TableDecl.{TableDecl}
use Rattle.wasm_module.proofs.FrontLemmas.{where_so}
use Rattle.wasm_module.specs.Images.{cells_of, fixed_offset, defined_number, image_written, within, most_cells, most_bytes, holds_functions, led_cells, led_bytes}

pub mapped : {A B P : Type 0} (f : A → B) (o : Option A) (y : B) → option_map f o ≡ Some y →
    ((x : A) → o ≡ Some x → f x ≡ y → P) → P
mapped f None y e go = absurd (none-some y e)
mapped f (Some x) y e go = go x refl (same_Some (f x) y e)

defined : (imports index number : ℕ) → defined_number imports index ≡ Some number → index ≡ imports + number
defined imports index number e =
    let so = where_so (nat_le imports index) (Some (index - imports)) number e in
    omega (arith, leb-true imports index so.0, same_Some (index - imports) number so.1)

-- a piece that leads: its place, and what it leaves
pub record Leads {A : Type 0} (blank : A) (images : List (List A)) (number size at : ℕ) (piece : List A) (after : List (List A)) : Type 0 where
  pub image : List A
  pub there : slice_get images number ≡ Some image
  pub fits : at + length piece ≤ size
  pub leaves : set images number (written blank at piece image) ≡ after

pub leads : {A : Type 0} (blank : A) (images : List (List A)) (number size at : ℕ) (piece : List A) (after : List (List A))
    (most : ℕ) → option_and_then (within most) (image_written blank images number size at piece) ≡ Some after →
    Leads blank images number size at piece after
leads {A} blank images number size at piece after most e =
    option_and_then_some (within most) (image_written blank images number size at piece) after e (λ x is inside.
    let fit = where_so (nat_le (at + length piece) size) _ x is in
    mapped (λ (image : List A). set images number (written blank at piece image)) (slice_get images number) x fit.1
    (λ image there leaves. record {
      image = image;
      there = there;
      fits = leb-true (at + length piece) size fit.0;
      leaves = leaves ∙ same_Some x after (where_so _ (Some x) after inside).1;
    }))

-- an active element segment that leads
pub record ElementLeads (d : ModuleDecl) (images : List (List Cell)) (table : ℕ) (offset : ConstExpr) (items : List ConstExpr) (after : List (List Cell)) : Type 0 where
  pub number : ℕ
  pub declared : TableDecl
  pub at : ℕ
  pub cells : List Cell
  pub index_is : table ≡ length (imported as_table d) + number
  pub declared_is : slice_get d.tables number ≡ Some declared
  pub offset_is : fixed_offset offset ≡ Some at
  pub cells_are : cells_of items ≡ Some cells
  pub writes : Leads cell.Init images number declared.ty.minimum at cells after

pub element_leads : (d : ModuleDecl) (images : List (List Cell)) (table : ℕ) (offset : ConstExpr) (items : List ConstExpr)
    (after : List (List Cell)) → led_cells d images table offset items ≡ Some after →
    ElementLeads d images table offset items after
element_leads d images table offset items after e =
    option_and_then_some _ (defined_number (length (imported as_table d)) table) after e (λ number e0 f0.
    option_and_then_some _ (slice_get d.tables number) after f0 (λ t e1 f1.
    option_and_then_some _ (fixed_offset offset) after f1 (λ at e2 f2.
    option_and_then_some _ (cells_of items) after f2 (λ cells e3 f3.
    record {
      number = number;
      declared = t;
      at = at;
      cells = cells;
      index_is = defined (length (imported as_table d)) table number e0;
      declared_is = e1;
      offset_is = e2;
      cells_are = e3;
      writes = leads cell.Init images number t.ty.minimum at cells after most_cells (where_so (holds_functions t) _ after f3).1;
    }))))

-- and such a data segment
pub record DataLeads (d : ModuleDecl) (images : List (List ℕ)) (memory : ℕ) (offset : ConstExpr) (bytes : List ℕ) (after : List (List ℕ)) : Type 0 where
  pub number : ℕ
  pub declared : MemoryParts
  pub at : ℕ
  pub index_is : memory ≡ length (imported as_memory d) + number
  pub declared_is : slice_get d.memories number ≡ Some declared
  pub offset_is : fixed_offset offset ≡ Some at
  pub writes : Leads 0 images number (declared.minimum * page_size declared) at bytes after

pub data_leads : (d : ModuleDecl) (images : List (List ℕ)) (memory : ℕ) (offset : ConstExpr) (bytes : List ℕ)
    (after : List (List ℕ)) → led_bytes d images memory offset bytes ≡ Some after →
    DataLeads d images memory offset bytes after
data_leads d images memory offset bytes after e =
    option_and_then_some _ (defined_number (length (imported as_memory d)) memory) after e (λ number e0 f0.
    option_and_then_some _ (slice_get d.memories number) after f0 (λ ty e1 f1.
    option_and_then_some _ (fixed_offset offset) after f1 (λ at e2 f2.
    record {
      number = number;
      declared = ty;
      at = at;
      index_is = defined (length (imported as_memory d)) memory number e0;
      declared_is = e1;
      offset_is = e2;
      writes = leads 0 images number (ty.minimum * page_size ty) at bytes after most_bytes f2;
    })))
