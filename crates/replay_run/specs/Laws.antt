-- A replay of a script by the tape of its record is the recorded run. This project's own.
use Rattle.std.specs.Prelude.{◌≡◌, List}
use Rattle.spec_machine.specs.declared.reply.Reply.{Reply}
use Rattle.law_replay.specs.Tapes.{TapeParts}
use Rattle.wasm_call.specs.Outside.{Readings}
use Rattle.script_commands.specs.declared.script.Script.{Script}
use Rattle.wasm_replay.specs.declared.ends.ReplayEnd.{ReplayEnd}
use Rattle.wasm_replay.specs.declared.ends.ReplayEnd.TheVariants.{Same}
use Rattle.replay_run.specs.Runs.{HasRecorded, HasReplayed}

-- it ends as it was recorded, with the same replies
abbrev pub LawOfRecords : {E : Type 0} → Readings E → Type 0
LawOfRecords {E} readings =
    (epochs epochs_after : E) (script : Script) (tape : TapeParts) (replies again : List Reply) (ended : ReplayEnd)
    → HasRecorded readings epochs epochs_after script tape replies → HasReplayed script tape again ended
    → (ended ≡ Same) × (again ≡ replies)
