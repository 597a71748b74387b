use Rattle.std.proofs.Common.{◌≡◌, ◌*◌, ℕ, set, ap, sym, ◌∙◌, subst}
use Rattle.std.specs.Prelude.{Some, slice_get}
use Rattle.wasm_types.specs.Memories.{Memory}
use Rattle.wasm_types.specs.MemoryTypes.{page_size}
use Rattle.wasm_values.specs.Handles.{memory_index}
use Rattle.wasm_objects.specs.Growth.{longer_memory}
use Rattle.spec_machine.specs.Growth.{Plan}
use Rattle.spec_machine.specs.Machine.{Machine}
use Rattle.spec_machine.specs.MemoryCalls.{memory_grow, with_memory}
use Rattle.law_store.proofs.Memories.{MemoryGrow, memory_grow_passed, keeps_memory_grow}
use Rattle.store_state.specs.Parts.{HeldParts}
use Rattle.store_objects.proofs.GrowthLemmas.{plan_of}
use Rattle.store_objects.proofs.StoreLemmas.{memory_may_grow}
use Rattle.store_objects.specs.contracts.objects.Objects.{the_view}
use Rattle.spec_machine.specs.WellFormed.{IsWellFormed}
use Rattle.store_objects.proofs.objects.Objects.memory_grow.Goals as goal

pub grow_memory-requires-clause-may_grow : goal.grow_memory-requires-clause-may_grow
grow_memory-requires-clause-may_grow c = λ x found.
    let m = c.args.self.now in
    let due = plan_of m (memory_grow m c.args.memory c.args.delta) c.requires in
    memory_may_grow m c.args.memory c.args.delta due.plan due.is due.granted x
    (subst (λ (k : Machine). slice_get k.memories (memory_index c.args.memory) ≡ Some x) c.self.view_is
    (subst (λ (i : ℕ). slice_get c.self.inside.held.memories i ≡ Some x) c.index.ensures found))

pub invariant_of-self-2 : goal.invariant_of-self-2
invariant_of-self-2 c =
    let m = c.args.self.now in
    let at : ℕ = memory_index c.args.memory in
    let old = c.self.inside.held in
    let after : HeldParts → Machine = λ h. the_view (record c.self.inside { held = h }) in
    let s : IsWellFormed m = subst IsWellFormed c.self.view_is c.self.invariant in
    let due = plan_of m (memory_grow m c.args.memory c.args.delta) c.requires in
    let p = due.plan in
    let q : MemoryGrow m c.args.memory c.args.delta p =
    memory_grow_passed m c.args.memory c.args.delta p due.is in
    let y : Memory = longer_memory q.object (c.args.delta * page_size q.object.ty) in
    let found : slice_get old.memories c.index.result ≡ Some q.object =
    ap (slice_get old.memories) c.index.ensures ∙ subst (λ (k : Machine). slice_get k.memories at ≡ Some q.object)
    (sym c.self.view_is) q.found in
    let held : c.grow_memory.new.self ≡ record old { memories = set old.memories at y } =
    c.in_ok-grow_memory.ensures.ok q.object found
    ∙ ap (λ (i : ℕ). record old { memories = set old.memories i y }) c.index.ensures in
    let done : after c.grow_memory.new.self ≡ p.after =
    ap after held ∙ (ap (λ (k : Machine). with_memory k c.args.memory y) c.self.view_is
    ∙ ap (λ (r : Plan ℕ). r.after) q.is) in
    subst IsWellFormed (sym done)
    (keeps_memory_grow m c.args.memory c.args.delta p s due.is due.granted)
