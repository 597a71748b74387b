-- Runs of commands for the worked examples.
use Rattle.std.proofs.Common.{[], Some, None}
use Rattle.std.specs.Prelude.{ℕ, List, Option, option_map}
use Rattle.spec_machine.specs.Machine.{Machine}
use Rattle.spec_machine.specs.declared.reply.Reply.{Reply}
use Rattle.spec_execution.specs.Askings.{Question, Answer}
use Rattle.spec_execution.specs.Runs.{State, state}
use Rattle.spec_execution.proofs.Samples.{questions_in}

-- where a session starts, with these answers
abbrev pub beginning : Machine → List Answer → State
beginning m answers = state m 0 [] [] answers

abbrev pub from : Machine → State
from m = beginning m []

-- the replies of a run
abbrev pub replies_of : Option State → List Reply
replies_of None = []
replies_of (Some s) = s.replies

-- and the questions that were asked
abbrev pub asked_of : Option State → List Question
asked_of None = []
asked_of (Some s) = questions_in s.heard

-- and the turns that the last command took
abbrev pub turns_of : Option State → Option ℕ
turns_of None = None
turns_of (Some s) = Some s.turns

-- the same state, with other turns of the last command, or with other replies
abbrev pub in_turns : ℕ → Option State → Option State
in_turns turns o = option_map (λ (s : State). record s { turns = turns }) o

abbrev pub with_replies : List Reply → Option State → Option State
with_replies replies o = option_map (λ (s : State). record s { replies = replies }) o
