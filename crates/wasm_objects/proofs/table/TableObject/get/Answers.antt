use Rattle.std.proofs.Common.{arith, sym, ap, ◌∙◌}
use Rattle.std.specs.Prelude.{slice_get}
use Rattle.wasm_objects.specs.Slots.{functions_of}
use Rattle.wasm_objects.proofs.LookUpLemmas as look
use Rattle.wasm_objects.proofs.table.TableObject.get.Goals as goal

pub returns-in_err-slot-clause-places : goal.returns-in_err-slot-clause-places
returns-in_err-slot-clause-places c =
    look.missing_places c.self.inside.ty c.self.inside.init (functions_of c.self.inside.functions) c.self.inside.slots.items
    _ c.self.inside.filled c.args.self.now c.self.view_is c.args.at
    (ap (λ l. slice_get l c.args.at) (sym c.deref.ensures.value) ∙ sym c.slot_at.ensures ∙ c.in_err-slot.was)

pub returns-in_err-slot-clause-count : goal.returns-in_err-slot-clause-count
returns-in_err-slot-clause-count c =
    look.missing_count c.self.inside.ty c.self.inside.init (functions_of c.self.inside.functions) c.self.inside.slots.items
    _ c.self.inside.filled c.args.self.now c.self.view_is c.args.at
    (ap (λ l. slice_get l c.args.at) (sym c.deref.ensures.value) ∙ sym c.slot_at.ensures ∙ c.in_err-slot.was)

pub returns-then-not-is_open-clause-value : goal.returns-then-not-is_open-clause-value
returns-then-not-is_open-clause-value c =
    look.value c.self.inside.ty c.self.inside.init (functions_of c.self.inside.functions) c.self.inside.slots.items
    _ c.self.inside.filled c.args.self.now c.self.view_is c.args.at
    c.in_ok-slot.slot (ap (λ l. slice_get l c.args.at) (sym c.deref.ensures.value) ∙ sym c.slot_at.ensures ∙ c.in_ok-slot.was)
    c.reference-value.result c.listed.result.now c.reference-value.ensures c.listed.ensures

pub returns-then-not-is_open-clause-places : goal.returns-then-not-is_open-clause-places
returns-then-not-is_open-clause-places c =
    look.closed_places c.self.inside.ty c.self.inside.init (functions_of c.self.inside.functions) c.self.inside.slots.items
    _ c.self.inside.filled c.args.self.now c.self.view_is c.args.at
    c.in_ok-slot.slot (ap (λ l. slice_get l c.args.at) (sym c.deref.ensures.value) ∙ sym c.slot_at.ensures ∙ c.in_ok-slot.was)
    (sym c.is_open.ensures ∙ c.if-not-is_open.true)

pub returns-then-not-is_open-clause-count : goal.returns-then-not-is_open-clause-count
returns-then-not-is_open-clause-count c =
    look.closed_count c.self.inside.ty c.self.inside.init (functions_of c.self.inside.functions) c.self.inside.slots.items
    _ c.self.inside.filled c.args.self.now c.self.view_is c.args.at
    c.in_ok-slot.slot (ap (λ l. slice_get l c.args.at) (sym c.deref.ensures.value) ∙ sym c.slot_at.ensures ∙ c.in_ok-slot.was)
    (sym c.is_open.ensures ∙ c.if-not-is_open.true)

pub index_mut-requires : goal.index_mut-requires
index_mut-requires c =
    let there = look.within c.self.inside.ty c.self.inside.init (functions_of c.self.inside.functions) c.self.inside.slots.items
    _ c.self.inside.filled c.args.self.now c.self.view_is c.args.at
    c.in_ok-slot.slot (ap (λ l. slice_get l c.args.at) (sym c.deref.ensures.value) ∙ sym c.slot_at.ensures ∙ c.in_ok-slot.was) in
    omega (arith, there, c.self.inside.slots.ok.0)

pub overflow_add-self : goal.overflow_add-self
overflow_add-self c =
    let small = look.below c.self.inside.ty c.self.inside.init (functions_of c.self.inside.functions) c.self.inside.slots.items
    _ c.self.inside.filled c.args.self.now c.self.view_is c.args.at
    c.in_ok-slot.slot (ap (λ l. slice_get l c.args.at) (sym c.deref.ensures.value) ∙ sym c.slot_at.ensures ∙ c.in_ok-slot.was)
    (sym c.is_open.ensures ∙ c.if-not-is_open.false) c.reference-value.result c.listed.result.now c.of.result c.reference-value.ensures c.listed.ensures c.of.ensures c.self.invariant.0 in
    omega (arith, small, c.self.inside.slots.ok.0, c.self.inside.slots.small)

pub invariant_of-self : goal.invariant_of-self
invariant_of-self c = (
  look.kept c.self.inside.ty c.self.inside.init (functions_of c.self.inside.functions) c.self.inside.slots.items
      _ c.self.inside.filled c.args.self.now c.self.view_is c.args.at
      c.in_ok-slot.slot (ap (λ l. slice_get l c.args.at) (sym c.deref.ensures.value) ∙ sym c.slot_at.ensures ∙ c.in_ok-slot.was)
      (sym c.is_open.ensures ∙ c.if-not-is_open.false) c.reference-value.result c.listed.result.now c.of.result c.reference-value.ensures c.listed.ensures c.of.ensures c.self.invariant.0,
  λ e. look.settles c.self.inside.ty c.self.inside.init (functions_of c.self.inside.functions) c.self.inside.slots.items
      _ c.self.inside.filled c.args.self.now c.self.view_is c.args.at
      c.in_ok-slot.slot (ap (λ l. slice_get l c.args.at) (sym c.deref.ensures.value) ∙ sym c.slot_at.ensures ∙ c.in_ok-slot.was)
      (sym c.is_open.ensures ∙ c.if-not-is_open.false) c.reference-value.result c.listed.result.now c.of.result c.reference-value.ensures c.listed.ensures c.of.ensures (c.self.invariant.1 e),
)

pub returns-clause-value : goal.returns-clause-value
returns-clause-value c =
    look.value c.self.inside.ty c.self.inside.init (functions_of c.self.inside.functions) c.self.inside.slots.items
    _ c.self.inside.filled c.args.self.now c.self.view_is c.args.at
    c.in_ok-slot.slot (ap (λ l. slice_get l c.args.at) (sym c.deref.ensures.value) ∙ sym c.slot_at.ensures ∙ c.in_ok-slot.was)
    c.reference-value.result c.listed.result.now c.reference-value.ensures c.listed.ensures

pub returns-clause-unchanged : goal.returns-clause-unchanged
returns-clause-unchanged c =
    look.unchanged c.self.inside.ty c.self.inside.init (functions_of c.self.inside.functions) c.self.inside.slots.items
    _ c.self.inside.filled c.args.self.now c.self.view_is c.args.at
    c.in_ok-slot.slot (ap (λ l. slice_get l c.args.at) (sym c.deref.ensures.value) ∙ sym c.slot_at.ensures ∙ c.in_ok-slot.was)
    (sym c.is_open.ensures ∙ c.if-not-is_open.false) c.reference-value.result c.listed.result.now c.of.result c.reference-value.ensures c.listed.ensures c.of.ensures

pub returns-clause-places : goal.returns-clause-places
returns-clause-places c =
    look.places c.self.inside.ty c.self.inside.init (functions_of c.self.inside.functions) c.self.inside.slots.items
    _ c.self.inside.filled c.args.self.now c.self.view_is c.args.at
    c.in_ok-slot.slot (ap (λ l. slice_get l c.args.at) (sym c.deref.ensures.value) ∙ sym c.slot_at.ensures ∙ c.in_ok-slot.was)
    (sym c.is_open.ensures ∙ c.if-not-is_open.false) c.reference-value.result c.listed.result.now c.of.result c.reference-value.ensures c.listed.ensures c.of.ensures

pub returns-clause-count : goal.returns-clause-count
returns-clause-count c =
    look.opened_count c.self.inside.ty c.self.inside.init (functions_of c.self.inside.functions) c.self.inside.slots.items
    _ c.self.inside.filled c.args.self.now c.self.view_is c.args.at
    c.in_ok-slot.slot (ap (λ l. slice_get l c.args.at) (sym c.deref.ensures.value) ∙ sym c.slot_at.ensures ∙ c.in_ok-slot.was)
    (sym c.is_open.ensures ∙ c.if-not-is_open.false)
