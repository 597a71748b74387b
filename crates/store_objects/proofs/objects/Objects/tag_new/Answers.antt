use Rattle.std.proofs.Common.{◌≡◌, subst, arith}
use Rattle.std.proofs.lemmas.Grind.{common_steps}
use Rattle.std.specs.Prelude.{Ok}
use Rattle.spec_machine.specs.Machine.{Machine}
use Rattle.spec_machine.specs.GlobalCalls.{tag_new}
use Rattle.wasm_types.specs.FunctionRules.{IsSound}
use Rattle.law_store.proofs.Globals.{keeps_tag_new}
use Rattle.store_objects.specs.contracts.objects.Objects.{the_view}
use Rattle.spec_machine.specs.WellFormed.{IsWellFormed}
use Rattle.store_objects.proofs.objects.Objects.tag_new.Goals as goal

pub invariant_of-self-2 : goal.invariant_of-self-2
invariant_of-self-2 c =
    let m = c.args.self.now in
    let after : Machine = the_view (record c.self.inside { held = c.add_tag.new.self }) in
    let done : tag_new m c.args.ty.now ≡ Ok (after, c.from_parts-handle.result) = grind (arith, common_steps) in
    keeps_tag_new m c.args.ty.now (after, c.from_parts-handle.result) (subst IsWellFormed c.self.view_is c.self.invariant)
    (subst IsSound c.ty-own.ensures c.keeps_rules.ensures) done
