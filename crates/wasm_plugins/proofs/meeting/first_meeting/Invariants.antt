use Rattle.std.proofs.Common.{◌≡◌, drop}
use Rattle.law_plugins.specs.Meeting.{meeting_from, first_meeting}
use Rattle.wasm_plugins.proofs.meeting.first_meeting.Given as goal

-- what is left decides
abbrev pub invariant-loop-place : goal.invariant-loop-place
invariant-loop-place g l =
    meeting_from l.store.machine l.set l.place (drop l.place l.guests) ≡ first_meeting l.store.machine l.set l.guests
