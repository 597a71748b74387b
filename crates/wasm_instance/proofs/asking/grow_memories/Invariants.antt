use Rattle.std.proofs.Common.{◌≡◌, ◌≤◌, length}
use Rattle.wasm_types.specs.Each.{Each}
use Rattle.law_store.specs.Granted.{IsGranted}
use Rattle.spec_execution.specs.Instantiation.{new_memory_plan}
use Rattle.spec_machine.specs.Machine.{Machine}
use Rattle.wasm_instance.specs.Asking.{growing_memories, Reaches}
use Rattle.wasm_instance.proofs.asking.grow_memories.Given as goal

-- what is left is what is still to be decided, and those before it are granted
abbrev pub invariant-memories : goal.invariant-memories
invariant-memories g l = record {
  reached : (m : Machine) → m.is_limited ≡ l.limited → Reaches g.T.ResourceLimiter.growths m
      (growing_memories l.types) (growing_memories l.rest) l.fn.store l.store;
  granted : (m : Machine) → m.is_limited ≡ l.limited → Each l.rest (λ ty. IsGranted m (new_memory_plan m ty)) →
      Each l.types (λ ty. IsGranted m (new_memory_plan m ty));
  machine : l.store.machine ≡ l.fn.store.machine;
  within : l.store.turns ≤ l.most;
}

abbrev pub decreases-memories : goal.decreases-memories
decreases-memories g l = length l.rest
