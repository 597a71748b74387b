use Rattle.law_hooks.proofs.LawLemmas.{calls_are_bracketed, instantiations_are_bracketed, commands_are_bracketed, stops_are_bracketed, events_are_bracketed}
use Rattle.law_hooks.proofs.laws.law_hook_events_are_bracketed.Goals as goal

pub returns-clause-calls : goal.returns-clause-calls
returns-clause-calls c = calls_are_bracketed

pub returns-clause-instantiations : goal.returns-clause-instantiations
returns-clause-instantiations c = instantiations_are_bracketed

pub returns-clause-commands : goal.returns-clause-commands
returns-clause-commands c = commands_are_bracketed

pub returns-clause-stopped : goal.returns-clause-stopped
returns-clause-stopped c = stops_are_bracketed

pub returns-clause-unfailed : goal.returns-clause-unfailed
returns-clause-unfailed c = events_are_bracketed
