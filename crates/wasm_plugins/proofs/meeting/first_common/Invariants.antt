use Rattle.std.proofs.Common.{take}
use Rattle.std.specs.Prelude.{option_map}
use Rattle.law_plugins.specs.Meeting.{is_common}
use Rattle.wasm_store.specs.LinkLaws.{as_reached}
use Rattle.wasm_plugins.specs.Meetings.{IsFirstOf}
use Rattle.wasm_plugins.proofs.meeting.first_common.Given as goal

-- of the members so far, this is the first in common
abbrev pub invariant-loop-place : goal.invariant-loop-place
invariant-loop-place l =
    IsFirstOf (is_common l.objects l.other l.set) (take l.place l.set) (option_map as_reached l.first)
