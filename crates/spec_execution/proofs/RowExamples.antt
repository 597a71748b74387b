-- Worked examples of an act at a reading of the epoch, by rows written by hand and by the command, each by computation.
use Rattle.std.proofs.Common.{◌≡◌, ℕ, ◌∷◌, [], refl}
use Rattle.std.specs.Prelude.{◌+◌, true, false, List, Ok, Err}
use Rattle.wasm_values.specs.declared.refusals.Refusal.TheVariants.{EpochFault}
use Rattle.spec_machine.specs.Changes.{set_deadline}
use Rattle.spec_machine.specs.Commands.{ActAt}
use Rattle.spec_machine.specs.Names.{outermost}
use Rattle.spec_machine.specs.declared.command.Command.TheVariants as command_of
use Rattle.spec_machine.specs.declared.operation.Op.TheVariants.{SetEpochDeadline}
use Rattle.spec_machine.specs.declared.reply.Reply.TheVariants.{Done, Refused}
use Rattle.spec_machine.proofs.Samples.{empty}
use Rattle.spec_execution.specs.Askings.{Answer, Has, Reading, Read}
use Rattle.spec_execution.specs.Bodies.{exec}
use Rattle.spec_execution.specs.Commands.{Finish, Replied, Early, perform, replied, command}
use Rattle.spec_execution.specs.Outcomes.{world, Stopped, Waiting}

-- a deadline of ten ticks past the reading, with so many turns and these answers
abbrev dated : ℕ → List Answer → Finish
dated turns answers =
    perform Early exec 0 (world empty turns [] answers) (ActAt (λ reading. set_deadline empty (reading + 10)) Done)
    replied

-- the reading takes a turn, and so does the act
acts_at_a_reading :
    dated 9 (Read (Ok 32) ∷ Has false ∷ [])
    ≡ Replied Done (world (set_deadline empty 42) 7 ((Reading, Read (Ok 32)) ∷ []) (Has false ∷ []))
acts_at_a_reading = refl

-- a fault of the reading is the reply, and no act is done
refuses_a_fault :
    dated 9 (Read (Err (record {})) ∷ [])
    ≡ Replied (Refused EpochFault) (world empty 8 ((Reading, Read (Err (record {}))) ∷ []) [])
refuses_a_fault = refl

waits_for_a_reading : dated 9 [] ≡ Early (Waiting Reading) (world empty 8 [] [])
waits_for_a_reading = refl

waits_for_its_kind : dated 9 (Has true ∷ []) ≡ Early (Waiting Reading) (world empty 8 [] (Has true ∷ []))
waits_for_its_kind = refl

-- with one turn it is stopped before the act, and without a turn before the reading
stops_before_the_act :
    dated 1 (Read (Ok 32) ∷ []) ≡ Early Stopped (world empty 0 ((Reading, Read (Ok 32)) ∷ []) [])
stops_before_the_act = refl

stops_before_the_reading : dated 0 (Read (Ok 32) ∷ []) ≡ Early Stopped (world empty 0 [] (Read (Ok 32) ∷ []))
stops_before_the_reading = refl

-- the command: so many ticks past the reading
moves_to_ticks_past_the_reading :
    command exec [] (outermost []) (command_of.Op (SetEpochDeadline 2)) (world empty 9 [] (Read (Ok 32) ∷ []))
    ≡ Replied Done (world (set_deadline empty 34) 7 ((Reading, Read (Ok 32)) ∷ []) [])
moves_to_ticks_past_the_reading = refl
