use Rattle.std.proofs.Common.{subst}
use Rattle.std.specs.Prelude.{option_map, IfOk}
use Rattle.spec_machine.specs.Machine.{Machine}
use Rattle.law_plugins.specs.Meeting.{is_common}
use Rattle.wasm_store.specs.LinkLaws.{as_reached}
use Rattle.wasm_plugins.specs.Meetings.{IsFirstOf}
use Rattle.wasm_plugins.proofs.RootLemmas.{met_first}
use Rattle.wasm_plugins.proofs.meeting.meeting_of.Goals as goal

pub returns : goal.returns
returns g c =
    met_first c.args.store.now.machine c.args.set.now c.in_ok-own.own c.args.guest c.first_common.result
    c.in_ok-own.ensures
    (subst
    (λ (m : Machine). IfOk c.first_common.result
    (λ f. IsFirstOf (is_common m c.args.set.now c.in_ok-own.own) c.in_ok-own.own (option_map as_reached f)))
    c.objects.ensures c.first_common.ensures)
