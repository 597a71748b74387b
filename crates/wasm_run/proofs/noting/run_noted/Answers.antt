use Rattle.std.proofs.Common.{length, refl, ap, sym, ◌∙◌, arith}
use Rattle.std.proofs.lemmas.List.{length-map, take_all}
use Rattle.std.specs.Prelude.{string_bytes}
use Rattle.wasm_session.proofs.Parts.{runs_none, runs_more, runs_stop}
use Rattle.wasm_run.proofs.CountLemmas.{counts_none, counts_next, counts_kept, noted_all}
use Rattle.wasm_run.proofs.noting.run_noted.Goals as goal

pub loop-command-init : goal.loop-command-init
loop-command-init g c = record {
  ran = runs_none _ c.args.modules.now c.args.commands.now _ _;
  counts_are = counts_none _ c.args.modules.now c.args.commands.now _ _ _ _ _ c.requires.empty;
  counted = ap length c.requires.empty;
  room = refl;
  answered = omega arith;
  engine = refl;
}

pub loop-command-preserved : goal.loop-command-preserved
loop-command-preserved g c =
    let i = c.loop-command.invariant in
    let ran = runs_more _ c.args.modules.now c.args.commands.now c.loop-command.command-index c.command-item.result _ _ _
    _ _ _ (omega arith) c.command-item.is i.ran c.in_default.ensures.done in
    record {
      ran = ran;
      counts_are = counts_next _ c.args.modules.now c.args.commands.now _ _ c.loop-command.command-index _ _ _ _ _ _ _ _
          i.counts_are c.in_default.ensures.done.chained i.counted
          (sym (length-map c.notes.result.now string_bytes) ∙ ap length c.notes.ensures) ran refl
          c.push_reserved.ensures.items;
      counted = omega (arith, i.counted, ap length c.push_reserved.ensures.items);
      room = c.push_reserved.ensures.capacity ∙ i.room;
      answered = omega (arith, i.answered, c.in_default.ensures.answered);
      engine = c.run_command.ensures.engine ∙ i.engine;
    }

pub returns-in-Err-clause-unfinished : goal.returns-in-Err-clause-unfinished
returns-in-Err-clause-unfinished g c =
    let i = c.loop-command.invariant in
    record {
      stops = runs_stop _ c.args.modules.now c.args.commands.now c.loop-command.command-index _ c.command-item.result _ _
          _ _ _ _ (omega arith) c.command-item.is i.answered i.engine i.ran c.in-Err.ensures.unfinished;
      counted = i.counted;
      counts_are = counts_kept _ c.args.modules.now c.args.commands.now _ _ _ _ _ _ _ i.counts_are
          c.in-Err.ensures.unfinished.stops.chained;
    }

pub returns-clause-done : goal.returns-clause-done
returns-clause-done g c =
    let i = c.loop-command.invariant in
    noted_all _ c.args.modules.now c.args.commands.now _ _ _ _ _ _
    (take_all c.loop-command.command-index c.args.commands.now (omega arith)) (omega (arith, i.counted)) i.ran
    i.counts_are
