use Rattle.std.proofs.Common.{◌≡◌, subst, arith}
use Rattle.std.proofs.lemmas.Grind.{common_steps}
use Rattle.std.specs.Prelude.{Ok}
use Rattle.spec_machine.specs.Machine.{Machine}
use Rattle.spec_machine.specs.TableCalls.{table_set}
use Rattle.law_store.proofs.Tables.{keeps_table_set}
use Rattle.store_objects.specs.contracts.objects.Objects.{the_view}
use Rattle.spec_machine.specs.WellFormed.{IsWellFormed}
use Rattle.store_objects.proofs.objects.Objects.table_set.Goals as goal

pub invariant_of-self : goal.invariant_of-self
invariant_of-self c =
    let m = c.args.self.now in
    let after : Machine = the_view (record c.self.inside { held = c.set_element.new.self }) in
    let done : table_set m c.args.table c.args.at c.args.value ≡ Ok after = grind (arith, common_steps) in
    keeps_table_set m after c.args.table c.args.at c.args.value (subst IsWellFormed c.self.view_is c.self.invariant) done
