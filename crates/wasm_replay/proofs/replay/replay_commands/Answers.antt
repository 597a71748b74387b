use Rattle.std.proofs.Common.{refl}
use Rattle.wasm_tape.specs.Parts.{parts_of}
use Rattle.wasm_replay.proofs.ReplayLemmas.{replayed, by_tape, stopped}
use Rattle.wasm_replay.proofs.replay.replay_commands.Goals as goal

pub returns-clause-replayed : goal.returns-clause-replayed
returns-clause-replayed c =
    replayed (parts_of c.args.tape.now) c.args.bodies c.args.modules.now c.args.commands.now c.args.store.now
    c.run_commands.new.store c.args.replies.now c.run_commands.new.replies _ c.run_commands.new.host _
    c.run_commands.new.epochs _
    (record {
      steps = c.as_slice.ensures;
      readings = c.as_slice-2.ensures;
      growths = c.requires.unasked.growths;
      host = c.new.ensures;
      epochs = c.new-2.ensures;
      host_data = c.requires.unasked.played;
      differs = refl;
      limit = refl;
    })
    c.requires.unasked.off c.in_default.ensures.done (rw (c.len.ensures, c.data-2.ensures, c.data.ensures) at c.end_of-end.ensures)

pub returns-clause-held : goal.returns-clause-held
returns-clause-held c =
    λ same. by_tape (parts_of c.args.tape.now) c.args.bodies c.args.modules.now c.args.commands.now c.args.store.now
    c.run_commands.new.store c.args.replies.now c.run_commands.new.replies _
    (replayed (parts_of c.args.tape.now) c.args.bodies c.args.modules.now c.args.commands.now c.args.store.now
    c.run_commands.new.store c.args.replies.now c.run_commands.new.replies _ c.run_commands.new.host _
    c.run_commands.new.epochs _
    (record {
      steps = c.as_slice.ensures;
      readings = c.as_slice-2.ensures;
      growths = c.requires.unasked.growths;
      host = c.new.ensures;
      epochs = c.new-2.ensures;
      host_data = c.requires.unasked.played;
      differs = refl;
      limit = refl;
    })
    c.requires.unasked.off c.in_default.ensures.done (rw (c.len.ensures, c.data-2.ensures, c.data.ensures) at c.end_of-end.ensures))
    same

pub returns-in-Err-clause-unfinished : goal.returns-in-Err-clause-unfinished
returns-in-Err-clause-unfinished c =
    stopped (parts_of c.args.tape.now) c.args.bodies c.args.modules.now c.args.commands.now _ c.args.store.now
    c.run_commands.new.store c.args.replies.now c.run_commands.new.replies _ c.run_commands.new.host _
    c.run_commands.new.epochs
    (record {
      steps = c.as_slice.ensures;
      readings = c.as_slice-2.ensures;
      growths = c.requires.unasked.growths;
      host = c.new.ensures;
      epochs = c.new-2.ensures;
      host_data = c.requires.unasked.played;
      differs = refl;
      limit = refl;
    })
    c.in-Err.ensures.unfinished
