use Rattle.std.proofs.Common.{◌≡◌, ℕ, ◌+◌, ◌-◌, List, [], ◌∷◌, ◌++◌, ap, ◌∙◌, length, take, drop, arith}
use Rattle.std.specs.Prelude.{nat_lt}
use Rattle.wasm_syntax.specs.declared.segments.ElemDecl.{ElemDecl}
use Rattle.wasm_module.proofs.LeadLemmas.{uncons}
use Rattle.wasm_objects.specs.declared.raw.RawRef.{RawRef}
use Rattle.wasm_objects.specs.declared.raw.RawVal.{RawVal}
use Rattle.law_images.specs.Leading.{references, left_references, left_elements}
use Rattle.instance_parts.specs.Objects.{first_of}
use Rattle.instance_parts.proofs.ListLemmas.{left_more}
use Rattle.instance_parts.proofs.segments.new_elements.Goals as goal

pub elements-preserved : goal.elements-preserved
elements-preserved c =
    let fs : List ℕ = c.args.functions.now in
    let gs : List RawVal = c.args.globals.now in
    let at = c.elements in
    let e : ElemDecl = c.element-item.result in
    let is = uncons at.rest.now e (omega (arith, c.in-len1-up.len_at_least)) c.element-item.is in
    let tail : List ElemDecl = take (length at.rest.now - 1) (drop 1 at.rest.now) in
    let leads = nat_lt at.segment c.args.leading in
    let begun : c.in_ok-try_new.field-0 ≡ first_of leads (left_references fs gs) (references fs gs) e =
    c.in_ok-try_new.ensures ∙ c.as_slice.ensures.value ∙ c.in_ok-items.ensures in
    record {
      made =
          ap (λ (xs : List (List RawRef)). xs ++ left_elements fs gs (c.args.leading - (at.segment + 1)) tail)
          (c.in_ok-push.ensures.items ∙ ap (λ (y : List RawRef). at.made.items ++ y ∷ []) begun)
          ∙ left_more (left_references fs gs) (references fs gs) c.args.leading at.segment at.rest.now tail e at.made.items
          (left_elements fs gs c.args.leading c.args.declared.now) is at.invariant.made;
      so_far = omega (arith, at.invariant.so_far, ap length is);
    }
