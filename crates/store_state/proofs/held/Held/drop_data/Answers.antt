use Rattle.std.proofs.Common.{◌<◌, length, ap, sym, ◌∙◌, arith}
use Rattle.store_state.proofs.SegmentLemmas.{unchanged, no_data, some_data, without_data_is}
use Rattle.store_state.specs.Machine.{data_of, without_data}
use Rattle.store_state.specs.Parts.{HeldParts, held_parts}
use Rattle.store_state.proofs.held.Held.drop_data.Goals as goal

pub returns-then-not-drop_data-clause-none : goal.returns-then-not-drop_data-clause-none
returns-then-not-drop_data-clause-none c =
    let h = c.self.inside in
    let x = c.index_mut.result.now in
    let within : c.args.instance < length h.segments.items =
    omega (arith, c.if-instance-len.false, c.len.ensures, h.segments.ok.0) in (
      ap (λ (p : HeldParts). data_of p c.args.instance c.args.segment) (sym c.self.view_is)
          ∙ no_data h.segments.items c.args.instance x within c.index_mut.ensures.value c.args.segment
          (sym c.if-not-drop_data.ensures.there),
      ap (λ l. held_parts h.memories h.tables h.globals.items h.tags.items l h.fuel h.deadline h.counts.made h.counts.limits)
          (unchanged h.segments.items c.args.instance x within c.index_mut.ensures.value
          c.drop_data.new.self c.if-not-drop_data.ensures.refused) ∙ c.self.view_is,
    )

pub returns-clause-dropped : goal.returns-clause-dropped
returns-clause-dropped c =
    let h = c.self.inside in
    let x = c.index_mut.result.now in
    let within : c.args.instance < length h.segments.items =
    omega (arith, c.if-instance-len.false, c.len.ensures, h.segments.ok.0) in
    let some = some_data h.segments.items c.args.instance x within c.index_mut.ensures.value c.args.segment
    (sym c.if-not-drop_data.ensures.there) in (
      omega (arith, within, ap (λ (p : HeldParts). length p.segments) c.self.view_is),
      some.0,
      ap (λ (p : HeldParts). data_of p c.args.instance c.args.segment) (sym c.self.view_is) ∙ some.1,
      ap (λ l. held_parts h.memories h.tables h.globals.items h.tags.items l h.fuel h.deadline h.counts.made h.counts.limits)
          (without_data_is h.segments.items c.args.instance x within c.index_mut.ensures.value c.args.segment
          c.drop_data.new.self c.if-not-drop_data.ensures.dropped)
          ∙ ap (λ (p : HeldParts). without_data p c.args.instance c.args.segment) c.self.view_is,
    )
