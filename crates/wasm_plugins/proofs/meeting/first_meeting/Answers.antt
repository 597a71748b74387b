use Rattle.std.proofs.Common.{◌≡◌, ◌<◌, length, Some, None, ap, ◌∙◌, arith}
use Rattle.std.specs.Prelude.{option_map}
use Rattle.law_plugins.specs.Meeting.{first_meeting}
use Rattle.wasm_store.specs.LinkLaws.{as_reached}
use Rattle.wasm_plugins.proofs.MeetingLemmas.{guest_met}
use Rattle.wasm_plugins.proofs.RootLemmas.{found_is, none_due}
use Rattle.wasm_plugins.proofs.meeting.first_meeting.Goals as goal

pub returns-in_default : goal.returns-in_default
returns-in_default g c =
    let none : c.in_ok-first_common.field-0 ≡ None = cc (c.in_default.is) in
    none_due c.args.store.now.machine c.objects.result.now c.args.set.now c.args.guests.now
    c.in_ok-first_common.field-0 c.objects.ensures none c.in_ok-first_common.ensures

pub returns-in-Some-2 : goal.returns-in-Some-2
returns-in-Some-2 g c =
    let within : c.loop-place.place < length c.args.guests.now = omega arith in
    let some : Some c.in-Some-2.node ≡ c.in_ok-node.field-0 = cc (c.in-Some-2.is) in
    found_is c.loop-place.place c.in-Some-2.node (first_meeting c.args.store.now.machine c.args.set.now c.args.guests.now)
    (guest_met c.args.store.now.machine c.args.set.now c.args.guests.now c.loop-place.place within
    c.loop-place.invariant (as_reached c.in-Some-2.node) (ap (option_map as_reached) some ∙ c.in_ok-node.ensures))
