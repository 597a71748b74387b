use Rattle.std.proofs.Common.{◌≡◌, subst, arith}
use Rattle.std.proofs.lemmas.Grind.{common_steps}
use Rattle.std.specs.Prelude.{Ok}
use Rattle.spec_machine.specs.Machine.{Machine}
use Rattle.spec_machine.specs.MemoryCalls.{memory_write}
use Rattle.law_store.proofs.Memories.{keeps_memory_write}
use Rattle.store_objects.specs.contracts.objects.Objects.{the_view}
use Rattle.spec_machine.specs.WellFormed.{IsWellFormed}
use Rattle.store_objects.proofs.objects.Objects.memory_write.Goals as goal

pub invariant_of-self : goal.invariant_of-self
invariant_of-self c =
    let m = c.args.self.now in
    let after : Machine = the_view (record c.self.inside { held = c.write_bytes.new.self }) in
    let done : memory_write m c.args.memory c.args.at c.args.bytes.now ≡ Ok after = grind (arith, common_steps) in
    keeps_memory_write m after c.args.memory c.args.at c.args.bytes.now (subst IsWellFormed c.self.view_is c.self.invariant) done
