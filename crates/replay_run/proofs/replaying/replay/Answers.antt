use Rattle.std.proofs.Common.{List, ap, length}
use Rattle.script_commands.specs.declared.host_bodies.Action.{Action}
use Rattle.wasm_tape.specs.Parts.{parts_of}
use Rattle.replay_run.specs.Prepared.{script_of}
use Rattle.replay_run.proofs.TextLemmas.{has_replayed}
use Rattle.replay_run.proofs.replaying.replay.Goals as goal

pub returns-in-Ok : goal.returns-in-Ok
returns-in-Ok c =
    has_replayed (script_of c.args.script.now) (parts_of c.args.tape.now) c.in_ok-store.store
    c.replay_commands-ended.new.store _ _ _ _ _ _ c.in_ok-store.ensures
    (ap (λ (bodies : List (List Action)). length bodies) c.as_slice-2.ensures) c.as_slice.ensures.value
    c.as_slice-3.ensures c.new-replies.ensures c.in-Ok.ensures.replayed
