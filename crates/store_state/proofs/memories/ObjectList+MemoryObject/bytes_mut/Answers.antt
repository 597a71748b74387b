use Rattle.std.proofs.Common.{refl, ap, sym, ◌∙◌, subst}
use Rattle.std.specs.Prelude.{Some, option_map}
use Rattle.wasm_types.specs.Memories.{Memory}
use Rattle.wasm_objects.specs.Growth.{MemoryObjectParts}
use Rattle.wasm_objects.specs.Lending.{with_left}
use Rattle.store_state.proofs.ChangeLemmas.{found_there, known, put, kept}
use Rattle.store_state.proofs.LendingLemmas.{left_over_length}
use Rattle.store_state.specs.Lending.{bytes_of, set_left}
use Rattle.store_state.specs.Within.{IsSize, IsMemorySized}
use Rattle.store_state.proofs.memories.ObjectList+MemoryObject.bytes_mut.Goals as goal

abbrev seen : MemoryObjectParts → Memory
seen h = h.memory

pub invariant_of-self-lent : goal.invariant_of-self-lent
invariant_of-self-lent c = λ w.
    let lent = c.index_mut.result.now in
    let old = known seen c.self.inside.objects.items c.args.self.now c.self.view_is c.args.number lent c.requires
    c.index_mut.ensures.value IsMemorySized c.self.invariant in
    kept seen c.self.inside.objects.items c.args.self.now c.self.view_is c.args.number lent c.requires
    c.index_mut.ensures.value IsMemorySized (with_left lent w)
    (subst (IsSize lent.memory.ty) (sym (left_over_length lent.memory.bytes w)) old) c.self.invariant

pub returns : goal.returns
returns c =
    let lent = c.index_mut.result.now in
    let there = found_there seen c.self.inside.objects.items c.args.self.now c.self.view_is c.args.number lent c.requires
    c.index_mut.ensures.value in (
      (
        refl,
        λ w. put seen c.self.inside.objects.items c.args.self.now c.self.view_is c.args.number lent c.requires
            c.index_mut.ensures.value (with_left lent w)
            ∙ ap (λ o. set_left c.args.self.now c.args.number o w) (sym there),
      ),
      record { lends = tt; value = ap (option_map bytes_of) there ∙ ap Some (sym c.bytes_mut.ensures.value) },
    )
