use Rattle.std.proofs.Common.{◌≡◌, [], ◌∷◌, ◌++◌, ap, sym, ◌∙◌, subst}
use Rattle.wasm_types.specs.Memories.{Memory, new_memory}
use Rattle.spec_machine.specs.Changes.{append_memories}
use Rattle.spec_machine.specs.Machine.{Machine}
use Rattle.spec_machine.specs.MemoryCalls.{memory_new}
use Rattle.law_store.proofs.Memories.{keeps_memory_new}
use Rattle.store_state.specs.Parts.{HeldParts}
use Rattle.store_state.specs.Within.{IsMemorySized}
use Rattle.store_objects.proofs.StoreLemmas.{new_memory_sized}
use Rattle.store_objects.specs.contracts.objects.Objects.{the_view}
use Rattle.spec_machine.specs.WellFormed.{IsWellFormed}
use Rattle.store_objects.proofs.objects.Objects.memory_new.Goals as goal

pub add_memory-requires : goal.add_memory-requires
add_memory-requires c =
    let s : IsWellFormed c.args.self.now = subst IsWellFormed c.self.view_is c.self.invariant in
    subst IsMemorySized (sym c.in_ok-object.ensures)
    (new_memory_sized c.args.self.now c.args.ty s c.keeps_limits.ensures c.requires)

pub invariant_of-self-2 : goal.invariant_of-self-2
invariant_of-self-2 c =
    let m = c.args.self.now in
    let old = c.self.inside.held in
    let after : HeldParts → Machine = λ h. the_view (record c.self.inside { held = h }) in
    let s : IsWellFormed m = subst IsWellFormed c.self.view_is c.self.invariant in
    let held : c.add_memory.new.self ≡ record old { memories = old.memories ++ new_memory c.args.ty ∷ [] } =
    c.in_ok-add_memory.ensures.ok
    ∙ ap (λ (x : Memory). record old { memories = old.memories ++ x ∷ [] }) c.in_ok-object.ensures in
    let done : after c.add_memory.new.self ≡ (memory_new m c.args.ty).after =
    ap after held ∙ ap (λ (k : Machine). append_memories k (new_memory c.args.ty ∷ [])) c.self.view_is in
    subst IsWellFormed (sym done)
    (keeps_memory_new m c.args.ty s c.keeps_limits.ensures c.requires)
