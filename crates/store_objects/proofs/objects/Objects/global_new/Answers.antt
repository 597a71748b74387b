use Rattle.std.proofs.Common.{◌≡◌, subst, arith}
use Rattle.std.proofs.lemmas.Grind.{common_steps}
use Rattle.std.specs.Prelude.{Ok}
use Rattle.spec_machine.specs.Machine.{Machine}
use Rattle.spec_machine.specs.GlobalCalls.{global_new}
use Rattle.wasm_types.specs.SoundTypes.{IsValSound}
use Rattle.law_store.proofs.Globals.{keeps_global_new}
use Rattle.store_objects.specs.contracts.objects.Objects.{the_view}
use Rattle.spec_machine.specs.WellFormed.{IsWellFormed}
use Rattle.store_objects.proofs.objects.Objects.global_new.Goals as goal

pub invariant_of-self-2 : goal.invariant_of-self-2
invariant_of-self-2 c =
    let m = c.args.self.now in
    let after : Machine = the_view (record c.self.inside { held = c.add_global.new.self }) in
    let done : global_new m c.args.ty c.args.val ≡ Ok (after, c.from_parts-handle.result) = grind
    (arith, common_steps) in
    keeps_global_new m c.args.ty c.args.val (after, c.from_parts-handle.result)
    (subst IsWellFormed c.self.view_is c.self.invariant)
    (subst IsValSound c.content-content.ensures c.keeps_rules.ensures) done
