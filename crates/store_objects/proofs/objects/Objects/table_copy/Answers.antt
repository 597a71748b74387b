use Rattle.std.proofs.Common.{◌≡◌, subst, arith}
use Rattle.std.proofs.lemmas.Grind.{common_steps}
use Rattle.std.specs.Prelude.{Ok}
use Rattle.spec_machine.specs.Machine.{Machine}
use Rattle.spec_machine.specs.TableCalls.{table_copy}
use Rattle.law_store.proofs.Tables.{keeps_table_copy}
use Rattle.store_objects.specs.contracts.objects.Objects.{the_view}
use Rattle.spec_machine.specs.WellFormed.{IsWellFormed}
use Rattle.store_objects.proofs.objects.Objects.table_copy.Goals as goal

pub invariant_of-self : goal.invariant_of-self
invariant_of-self c =
    let m = c.args.self.now in
    let after : Machine = the_view (record c.self.inside { held = c.copy_elements.new.self }) in
    let done : table_copy m c.args.dst c.args.dst_at c.args.src c.args.src_at c.args.len ≡ Ok after = grind (arith, common_steps) in
    keeps_table_copy m after c.args.dst c.args.dst_at c.args.src c.args.src_at c.args.len (subst IsWellFormed c.self.view_is c.self.invariant) done
