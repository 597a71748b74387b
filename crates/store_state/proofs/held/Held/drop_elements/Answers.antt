use Rattle.std.proofs.Common.{◌<◌, length, ap, sym, ◌∙◌, arith}
use Rattle.store_state.proofs.SegmentLemmas.{unchanged, no_elements, some_elements, without_elements_is}
use Rattle.store_state.specs.Machine.{elements_of, without_elements}
use Rattle.store_state.specs.Parts.{HeldParts, held_parts}
use Rattle.store_state.proofs.held.Held.drop_elements.Goals as goal

pub returns-then-not-drop_element-clause-none : goal.returns-then-not-drop_element-clause-none
returns-then-not-drop_element-clause-none c =
    let h = c.self.inside in
    let x = c.index_mut.result.now in
    let within : c.args.instance < length h.segments.items =
    omega (arith, c.if-instance-len.false, c.len.ensures, h.segments.ok.0) in (
      ap (λ (p : HeldParts). elements_of p c.args.instance c.args.segment) (sym c.self.view_is)
          ∙ no_elements h.segments.items c.args.instance x within c.index_mut.ensures.value c.args.segment
          (sym c.if-not-drop_element.ensures.there),
      ap (λ l. held_parts h.memories h.tables h.globals.items h.tags.items l h.fuel h.deadline h.counts.made h.counts.limits)
          (unchanged h.segments.items c.args.instance x within c.index_mut.ensures.value
          c.drop_element.new.self c.if-not-drop_element.ensures.refused) ∙ c.self.view_is,
    )

pub returns-clause-dropped : goal.returns-clause-dropped
returns-clause-dropped c =
    let h = c.self.inside in
    let x = c.index_mut.result.now in
    let within : c.args.instance < length h.segments.items =
    omega (arith, c.if-instance-len.false, c.len.ensures, h.segments.ok.0) in
    let some = some_elements h.segments.items c.args.instance x within c.index_mut.ensures.value c.args.segment
    (sym c.if-not-drop_element.ensures.there) in (
      omega (arith, within, ap (λ (p : HeldParts). length p.segments) c.self.view_is),
      some.0,
      ap (λ (p : HeldParts). elements_of p c.args.instance c.args.segment) (sym c.self.view_is) ∙ some.1,
      ap (λ l. held_parts h.memories h.tables h.globals.items h.tags.items l h.fuel h.deadline h.counts.made h.counts.limits)
          (without_elements_is h.segments.items c.args.instance x within c.index_mut.ensures.value c.args.segment
          c.drop_element.new.self c.if-not-drop_element.ensures.dropped)
          ∙ ap (λ (p : HeldParts). without_elements p c.args.instance c.args.segment) c.self.view_is,
    )
