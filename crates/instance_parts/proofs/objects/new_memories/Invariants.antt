use Rattle.std.proofs.Common.{◌≡◌, ◌≤◌, ◌++◌, drop, length}
use Rattle.wasm_module.specs.Images.{memory_images}
use Rattle.wasm_objects.specs.Lazy.{imaged_memory}
use Rattle.wasm_objects.specs.Objects.{memories_of}
use Rattle.law_images.specs.Leading.{imaged, led_memories}
use Rattle.instance_parts.proofs.objects.new_memories.Given as goal

abbrev pub invariant-memories : goal.invariant-memories
invariant-memories l = record {
  made : memories_of l.made.items ++ imaged imaged_memory l.rest (drop l.number (memory_images l.validated))
      ≡ led_memories l.validated;
  place : l.rest ≡ drop l.number l.validated.memories;
  few : length l.validated.memories ≤ 1000000;
}

abbrev pub decreases-memories : goal.decreases-memories
decreases-memories l = length l.rest
