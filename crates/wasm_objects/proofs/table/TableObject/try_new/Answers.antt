use Rattle.std.proofs.Common.{◌≡◌, [], replicate, arith}
use Rattle.wasm_objects.proofs.ElementLemmas.{new_settles, new_made, new_places}
use Rattle.wasm_objects.proofs.table.TableObject.try_new.Goals as goal

pub invariant_of-result : goal.invariant_of-result
invariant_of-result c =
    let all : c.in_ok-slots.slots.items ≡ replicate c.minimum-size.result c.of.result =
    c.in_ok-slots.ensures.items_if_clones_equal (λ y same. same) in (
      omega arith,
      λ _. new_settles c.args.ty c.args.init c.of.result c.minimum-size.result c.in_ok-slots.slots.items c.of.ensures
          all c.minimum-size.ensures.value,
    )

pub returns-clause-made : goal.returns-clause-made
returns-clause-made c =
    let all : c.in_ok-slots.slots.items ≡ replicate c.minimum-size.result c.of.result =
    c.in_ok-slots.ensures.items_if_clones_equal (λ y same. same) in
    new_made c.args.ty c.args.init c.of.result c.minimum-size.result c.in_ok-slots.slots.items c.of.ensures
    all c.minimum-size.ensures.value []

pub returns-clause-places : goal.returns-clause-places
returns-clause-places c =
    let all : c.in_ok-slots.slots.items ≡ replicate c.minimum-size.result c.of.result =
    c.in_ok-slots.ensures.items_if_clones_equal (λ y same. same) in
    new_places c.args.ty c.args.init c.of.result c.minimum-size.result c.in_ok-slots.slots.items c.of.ensures
    all c.minimum-size.ensures.value
