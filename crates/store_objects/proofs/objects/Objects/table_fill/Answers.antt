use Rattle.std.proofs.Common.{◌≡◌, subst, arith}
use Rattle.std.proofs.lemmas.Grind.{common_steps}
use Rattle.std.specs.Prelude.{Ok}
use Rattle.spec_machine.specs.Machine.{Machine}
use Rattle.spec_machine.specs.TableCalls.{table_fill}
use Rattle.law_store.proofs.Tables.{keeps_table_fill}
use Rattle.store_objects.specs.contracts.objects.Objects.{the_view}
use Rattle.spec_machine.specs.WellFormed.{IsWellFormed}
use Rattle.store_objects.proofs.objects.Objects.table_fill.Goals as goal

pub invariant_of-self : goal.invariant_of-self
invariant_of-self c =
    let m = c.args.self.now in
    let after : Machine = the_view (record c.self.inside { held = c.fill_elements.new.self }) in
    let done : table_fill m c.args.table c.args.at c.args.value c.args.len ≡ Ok after = grind (arith, common_steps) in
    keeps_table_fill m after c.args.table c.args.at c.args.value c.args.len (subst IsWellFormed c.self.view_is c.self.invariant) done
