use Rattle.std.proofs.Common.{◌≡◌, Some, ℕ, ◌+◌, ◌-◌, ◌≤◌, List, ◌++◌, length, take, drop, ap, sym, ◌∙◌, subst, arith}
use Rattle.std.specs.Prelude.{slice_get}
use Rattle.std.specs.Rc.{rc_slice_items}
use Rattle.wasm_types.specs.TableTypes.{TableParts}
use Rattle.wasm_types.specs.declared.plain.Cell.{Cell}
use Rattle.wasm_syntax.specs.declared.declarations.ModuleDecl.{ModuleDecl}
use Rattle.wasm_syntax.specs.declared.declarations.TableDecl.{TableDecl}
use Rattle.wasm_syntax.specs.declared.module_fault.Rule.TheVariants as rule
use Rattle.wasm_module.proofs.LeadLemmas.{uncons}
use Rattle.wasm_module.specs.Images.{table_images}
use Rattle.wasm_objects.specs.Growth.{TableObjectParts}
use Rattle.wasm_objects.specs.Lazy.{lazy_table}
use Rattle.wasm_objects.specs.Objects.{tables_of}
use Rattle.wasm_objects.specs.Tables.{Table}
use Rattle.wasm_objects.specs.declared.raw.RawRef.{RawRef}
use Rattle.wasm_objects.specs.declared.raw.RawVal.{RawVal}
use Rattle.spec_execution.specs.Allocation.{reference_of}
use Rattle.law_images.specs.Leading.{imaged_tables}
use Rattle.instance_parts.proofs.ListLemmas.{rest_there, rest_next, few, object_pushed, imaged_more}
use Rattle.instance_parts.proofs.objects.tables_over.Goals as goal

pub tables-init : goal.tables-init
tables-init c =
    let d : ModuleDecl = c.args.validated.now in
    let fs : List ℕ = rc_slice_items c.args.functions.now in
    let gs : List RawVal = c.args.globals.now in
    let all : c.as_slice-rest.result.now ≡ d.tables =
    c.as_slice-rest.ensures ∙ ap (λ (y : ModuleDecl). y.tables) c.decl.ensures.value in
    record {
      made =
          ap (λ (xs : List TableObjectParts).
          tables_of xs ++ imaged_tables fs gs c.as_slice-rest.result.now (table_images d)) c.new-made.ensures.items
          ∙ ap (λ (ts : List TableDecl). imaged_tables fs gs ts (table_images d)) all;
      place = all;
      few = few d.tables (λ t e. (c.decl.ensures.valid rule.Size).in_tables 1000000 t e);
    }

pub try_new_lazy-requires : goal.try_new_lazy-requires
try_new_lazy-requires c =
    let at = c.tables in
    let is = uncons at.rest.now c.table-item.result (omega (arith, c.in-len1-up.len_at_least)) c.table-item.is in
    record {
      fits =
          subst (λ (ty : TableParts). length (rc_slice_items c.in_ok-image.image) ≤ ty.minimum)
          (sym c.in_ok-clone.ensures.cases)
          (c.in_ok-images.ensures.fits.fits at.number (rc_slice_items c.in_ok-image.image) c.table-item.result
          c.in_ok-image.ensures (rest_there c.args.validated.now.tables at.number c.table-item.result _ (sym at.invariant.place ∙ is)));
    }

pub tables-preserved : goal.tables-preserved
tables-preserved c =
    let d : ModuleDecl = c.args.validated.now in
    let fs : List ℕ = rc_slice_items c.args.functions.now in
    let gs : List RawVal = c.args.globals.now in
    let at = c.tables in
    let t : TableDecl = c.table-item.result in
    let image : List Cell = rc_slice_items c.in_ok-image.image in
    let is = uncons at.rest.now t (omega (arith, c.in-len1-up.len_at_least)) c.table-item.is in
    let there : slice_get (table_images d) at.number ≡ Some image =
    ap (λ (is : List (List Cell)). slice_get is at.number) (sym c.in_ok-images.ensures.images) ∙ c.in_ok-image.ensures in
    let tail : List TableDecl = take (length at.rest.now - 1) (drop 1 at.rest.now) in
    let init : c.reference_of-init.result ≡ reference_of fs gs t.init =
    c.reference_of-init.ensures ∙ ap (λ (ns : List ℕ). reference_of ns gs t.init) c.as_slice.ensures.value in
    let object : c.in_ok-object.object.table ≡ lazy_table t.ty (reference_of fs gs t.init) image fs =
    c.in_ok-object.ensures.made
    ∙ ap (λ (ty : TableParts). lazy_table ty c.reference_of-init.result image (rc_slice_items c.in_ok-shared.shared))
    c.in_ok-clone.ensures.cases
    ∙ ap (λ (r : RawRef). lazy_table t.ty r image (rc_slice_items c.in_ok-shared.shared)) init
    ∙ ap (lazy_table t.ty (reference_of fs gs t.init) image) c.in_ok-shared.ensures.cases in
    record {
      made =
          ap (λ (xs : List Table). xs ++ imaged_tables fs gs tail (drop (at.number + 1) (table_images d)))
          (object_pushed (λ (h : TableObjectParts). h.table) at.made.items c.push.new.self.items c.in_ok-object.object
          (lazy_table t.ty (reference_of fs gs t.init) image fs) c.in_ok-push.ensures.items object)
          ∙ imaged_more (λ (x : TableDecl) y. lazy_table x.ty (reference_of fs gs x.init) y fs) (table_images d) at.rest.now
          tail at.number t image (tables_of at.made.items) (imaged_tables fs gs d.tables (table_images d)) is
          there at.invariant.made;
      place = rest_next d.tables at.number t tail (sym at.invariant.place ∙ is);
      few = at.invariant.few;
    }
