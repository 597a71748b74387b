use Rattle.std.specs.Prelude.{option_map}
use Rattle.wasm_store.specs.LinkLaws.{as_reached}
use Rattle.wasm_plugins.proofs.MeetingLemmas.{next_member}
use Rattle.wasm_plugins.proofs.meeting.first_common.Goals as goal

pub loop-place-preserved : goal.loop-place-preserved
loop-place-preserved c =
    next_member c.args.objects.now c.args.other.now c.args.set.now c.loop-place.place (as_reached c.in-Some.node)
    (option_map as_reached c.loop-place.first) (option_map as_reached c.with_member-first.result) c.in-Some.ensures
    c.with_member-first.ensures c.loop-place.invariant
