use Rattle.std.proofs.Common.{length}
use Rattle.script_host.specs.Notes.{note_text}
use Rattle.script_host.proofs.NoteLemmas.{Taking}
use Rattle.script_host.proofs.steps.take_notes.Given as goal

abbrev pub invariant-loop-rest : goal.invariant-loop-rest
invariant-loop-rest l =
    Taking (note_text l.sight.number l.sight.arguments.now l.sight.replies.now) l.initial.notes.items l.actions
    l.notes.items l.rest

abbrev pub decreases-loop-rest : goal.decreases-loop-rest
decreases-loop-rest l = length l.rest
