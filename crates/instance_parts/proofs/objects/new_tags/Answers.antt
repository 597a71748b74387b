use Rattle.std.proofs.Common.{List, ap, ◌∙◌}
use Rattle.std.specs.Prelude.{slice_get}
use Rattle.wasm_types.specs.Signatures.{Signature}
use Rattle.instance_parts.proofs.ListLemmas.{given, missed}
use Rattle.instance_parts.proofs.objects.new_tags.Goals as goal

pub tags-preserved-in_ok-push : goal.tags-preserved-in_ok-push
tags-preserved-in_ok-push c =
    given (slice_get c.args.decl.now.types) c.in-Some.tag.now c.tags.rest.now c.in-Some.tail.now c.in-Some.ensures.cases.0
    c.tags.made.items _ c.tags.invariant c.in-Some-type_at.ty.now c.in_ok-clone.field-0 c.push.new.self.items
    (c.in-Some-type_at.ensures ∙ ap (λ (ts : List Signature). slice_get ts c.in-Some.tag.now) c.as_slice.ensures)
    c.in_ok-clone.ensures.cases c.in_ok-push.ensures.items

pub tags-preserved : goal.tags-preserved
tags-preserved c =
    missed (slice_get c.args.decl.now.types) c.in-Some.tag.now c.tags.rest.now c.in-Some.tail.now c.in-Some.ensures.cases.0
    c.tags.made.items _ c.tags.invariant
    (c.in_default-type_at.ensures ∙ ap (λ (ts : List Signature). slice_get ts c.in-Some.tag.now) c.as_slice.ensures)
