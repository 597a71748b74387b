use Rattle.wasm_run.specs.Sessions.{script_parts}
use Rattle.wasm_run.proofs.SessionLemmas.{has_run, has_stopped}
use Rattle.wasm_run.proofs.session.Session.run.Goals as goal

pub returns-in-Ok-clause-done : goal.returns-in-Ok-clause-done
returns-in-Ok-clause-done g c = λ engine answers begins. has_run _
    (script_parts engine c.args.modules.now answers c.args.bodies c.args.commands.now) _ _ _ _ _ _ _ begins
    (rw (c.new-host.ensures, c.new-replies.ensures) at c.in-Ok.ensures.done)
    (rw c.new-replies.ensures at c.in-Ok.ensures.answered)

pub returns-in-Err-clause-failed : goal.returns-in-Err-clause-failed
returns-in-Err-clause-failed g c = λ engine answers begins. has_stopped _
    (script_parts engine c.args.modules.now answers c.args.bodies c.args.commands.now) _ _ _ _ _ _ _ _ begins
    (rw (c.new-host.ensures, c.new-replies.ensures) at c.in-Err.ensures.unfinished)
