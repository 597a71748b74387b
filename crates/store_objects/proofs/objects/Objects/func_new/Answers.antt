use Rattle.std.proofs.Common.{◌≡◌, subst, arith}
use Rattle.std.proofs.lemmas.Grind.{common_steps}
use Rattle.std.specs.Prelude.{Ok}
use Rattle.spec_machine.specs.Machine.{Machine}
use Rattle.spec_machine.specs.ValueCalls.{func_new}
use Rattle.law_store.proofs.Globals.{keeps_func_new}
use Rattle.store_objects.specs.contracts.objects.Objects.{the_view}
use Rattle.spec_machine.specs.WellFormed.{IsWellFormed}
use Rattle.store_objects.proofs.objects.Objects.func_new.Goals as goal

pub invariant_of-self-2 : goal.invariant_of-self-2
invariant_of-self-2 c =
    let m = c.args.self.now in
    let after : Machine = the_view (record c.self.inside { program = c.add_function.new.self }) in
    let done : func_new m c.args.ty c.args.body c.args.stored.now ≡ Ok (after, c.from_parts-handle.result) =
    grind (arith, common_steps) in
    keeps_func_new m c.args.ty c.args.body c.args.stored.now (after, c.from_parts-handle.result)
    (subst IsWellFormed c.self.view_is c.self.invariant) c.keeps_rules.ensures done
