use Rattle.store_state.specs.Engines.{engine_parts}
use Rattle.code_run.specs.Pausing.{due}
use Rattle.code_hosts.proofs.RunLemmas.{slice_ends, slice_pauses, slice_within}
use Rattle.code_hosts.proofs.code_part.run_code.Goals as goal

pub returns-clause-ends : goal.returns-clause-ends
returns-clause-ends g c =
    rw (← c.deref_mut.ensures.value)
    (slice_ends c.args.context.now.bounds g.W.Surroundings.moves c.args.context.now.program.now c.args.context.now.id
    (engine_parts c.args.context.now.engine.now) (due c.deref_mut.result.now) c.args.held.now c.args.world.now
    c.run.new.world c.args.left c.args.slice c.run.new.self c.run.new.held c.run.result c.run.ensures.ends)

pub returns-clause-pauses : goal.returns-clause-pauses
returns-clause-pauses g c =
    rw (← c.deref_mut.ensures.value)
    (slice_pauses c.args.context.now.bounds g.W.Surroundings.moves c.args.context.now.program.now c.args.context.now.id
    (engine_parts c.args.context.now.engine.now) (due c.deref_mut.result.now) c.args.held.now c.args.world.now
    c.run.new.world c.args.left c.args.slice c.run.new.self c.run.new.held c.run.result c.run.ensures.pauses)

pub returns-clause-within : goal.returns-clause-within
returns-clause-within g c =
    slice_within c.args.context.now.bounds g.W.Surroundings.moves c.args.context.now.program.now c.args.context.now.id
    (engine_parts c.args.context.now.engine.now) (due c.deref_mut.result.now) c.args.held.now c.args.world.now
    c.run.new.world c.args.left c.args.slice c.run.new.self c.run.new.held c.run.result c.run.ensures.ends
    c.run.ensures.pauses
