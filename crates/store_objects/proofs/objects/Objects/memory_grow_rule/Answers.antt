use Rattle.std.proofs.Common.{subst}
use Rattle.wasm_values.specs.Handles.{memory_index}
use Rattle.store_objects.proofs.StoreLemmas.{memory_sized}
use Rattle.spec_machine.specs.WellFormed.{IsWellFormed}
use Rattle.store_objects.proofs.objects.Objects.memory_grow_rule.Goals as goal

pub rule_of_memory-said-requires : goal.rule_of_memory-said-requires
rule_of_memory-said-requires c =
    let x = c.in_ok-object.object.now.memory in
    let s : IsWellFormed c.args.self.now = subst IsWellFormed c.self.view_is c.self.invariant in
    memory_sized x (s.memories_are (memory_index c.args.memory) x c.in_ok-object.ensures.1)
