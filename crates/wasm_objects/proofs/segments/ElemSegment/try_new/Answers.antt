use Rattle.std.proofs.Common.{◌≡◌, ◌++◌, map, [], sym, ap, ◌∙◌, subst}
use Rattle.wasm_objects.specs.Slots.{AreSettled, references_in, slot_of}
use Rattle.wasm_objects.specs.declared.raw.RawRef.TheVariants as r
use Rattle.wasm_objects.proofs.SlotLemmas.{slots_settled, slots_mean}
use Rattle.wasm_objects.proofs.segments.ElemSegment.try_new.Goals as goal

pub invariant_of-result : goal.invariant_of-result
invariant_of-result c =
    let all : c.references.new.slots.items ≡ map slot_of c.args.items.now =
    c.references.ensures ∙ ap (λ l. l ++ map slot_of c.args.items.now) c.in_ok-slots.ensures.items in
    subst AreSettled (sym all) (slots_settled c.args.items.now)

pub returns : goal.returns
returns c =
    let all : c.references.new.slots.items ≡ map slot_of c.args.items.now =
    c.references.ensures ∙ ap (λ l. l ++ map slot_of c.args.items.now) c.in_ok-slots.ensures.items in
    ap (references_in r.Null []) all ∙ slots_mean r.Null [] c.args.items.now
