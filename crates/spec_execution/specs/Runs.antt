-- Runs of commands, and stops of runs: this project's own.
use Rattle.std.specs.Prelude.{◌≡◌, ◌⊎◌, ℕ, suc, ◌-◌, ◌≤◌, ◌<◌, Bool, true, false, nat_eq, if◌then◌else◌, List, [], ◌∷◌, ◌++◌, take, slice_get, Option, Some, None, option_and_then, option_map}
use Rattle.wasm_syntax.specs.declared.declarations.ModuleDecl.{ModuleDecl}
use Rattle.wasm_values.specs.declared.refusals.Refusal.TheVariants.{TurnLimit}
use Rattle.spec_machine.specs.FunctionCalls.{Called}
use Rattle.spec_machine.specs.Machine.{Machine}
use Rattle.spec_machine.specs.Names.{outermost}
use Rattle.spec_machine.specs.declared.command.Command.{Command}
use Rattle.spec_machine.specs.declared.command.Command.TheVariants as command_is
use Rattle.spec_machine.specs.declared.reply.Reply.{Reply}
use Rattle.spec_machine.specs.declared.reply.Reply.TheVariants.{Refused}
use Rattle.spec_execution.specs.Askings.{Answer, Asking}
use Rattle.spec_execution.specs.Bodies.{exec}
use Rattle.spec_execution.specs.Commands.{invoke, Finish, Replied, Early, command}
use Rattle.spec_execution.specs.Outcomes.{World, world, Outcome, Stopped, Exhausted}

-- a call from outside of all code
abbrev pub outermost_call : World → Called → Outcome
outermost_call w c = invoke exec 0 w c

-- the store, the turns that the last command took, the replies so far, the questions that were asked with what was
-- answered, and the answers that are left
pub record State : Type 0 where
  pub machine : Machine
  pub turns : ℕ
  pub replies : List Reply
  pub heard : List Asking
  pub answers : List Answer

abbrev pub state : Machine → ℕ → List Reply → List Asking → List Answer → State
state m turns replies heard answers =
    record { machine = m; turns = turns; replies = replies; heard = heard; answers = answers }

-- a world with so many turns
abbrev pub world_in : ℕ → State → World
world_in turns s = world s.machine turns s.heard s.answers

-- and the state behind a world, in which these are left of so many turns, with these replies
abbrev pub behind : ℕ → World → List Reply → State
behind turns w replies = state w.machine (turns - w.turns) replies w.heard w.answers

-- how many turns an outermost command may take
abbrev pub turns_of : Machine → ℕ
turns_of m = m.engine.turns

-- a finished command has a reply, and so has one that was stopped at the engine's number of turns; one that waits for
-- an answer, or had no memory, has none
abbrev pub finished : ℕ → State → Finish → Option State
finished turns s (Replied reply w) = Some (behind turns w (s.replies ++ reply ∷ []))
finished turns s (Early Stopped w) = Some (behind turns w (s.replies ++ Refused TurnLimit ∷ []))
finished turns s (Early e w) = None

-- a command that was stopped after so many turns, so that none is left, has no reply; it may have come to its end, too
abbrev pub stopped : ℕ → State → Finish → Option State
stopped turns s (Replied reply w) = if nat_eq w.turns 0 then Some (behind turns w s.replies) else None
stopped turns s (Early Stopped w) = Some (behind turns w s.replies)
stopped turns s (Early e w) = None

-- a step of the host had no memory: it was asked, and the turn that it would have taken, and no other, is left
abbrev pub exhausted : ℕ → State → Finish → Option State
exhausted turns s (Early Exhausted w) = if nat_eq w.turns 1 then Some (behind turns w s.replies) else None
exhausted turns s finish = None

-- the next command, where there is one, is an instantiation
abbrev pub instantiates : Option Command → Bool
instantiates (Some (command_is.Instantiate number imports)) = true
instantiates _ = false

-- over the modules of the session
module _ (modules : List ModuleDecl) where
  -- the next command, with so many turns
  abbrev pub finish_of : ℕ → State → Command → Finish
  finish_of turns s c = command exec modules (outermost s.replies) c (world_in turns s)

  -- one outermost command
  abbrev pub step : State → Command → Option State
  step s c = finished (turns_of s.machine) s (finish_of (turns_of s.machine) s c)

  -- the commands in order; there is none where a command has no reply
  abbrev pub run : State → List Command → Option State
  run s [] = Some s
  run s (c ∷ commands) = option_and_then (λ t. run t commands) (step s c)

  -- the next command, where there is one, ended in this way with so many turns
  abbrev pub next_by : (ℕ → State → Finish → Option State) → ℕ → Option Command → State → Option State
  next_by ended turns None s = None
  next_by ended turns (Some c) s = ended turns s (finish_of turns s c)

  -- the first n commands, and the next one stopped after so many turns
  abbrev pub run_to : State → List Command → ℕ → ℕ → Option State
  run_to s commands n turns =
      option_and_then (next_by stopped turns (slice_get commands n)) (run s (take n commands))

  -- the same, where after so many turns a step of the host was asked that had no memory
  abbrev pub run_to_step : State → List Command → ℕ → ℕ → Option State
  run_to_step s commands n turns =
      option_and_then (next_by exhausted (suc turns) (slice_get commands n)) (run s (take n commands))

  -- the first n commands, before the counts of an instantiation are raised; run_to says what is there behind that
  abbrev pub run_before : State → List Command → ℕ → Option State
  run_before s commands n =
      if instantiates (slice_get commands n)
      then option_map (λ (t : State). record t { turns = 0 }) (run s (take n commands)) else None

  -- a run of commands, unfinished after so many turns of one
  abbrev pub IsStop : State → List Command → ℕ → ℕ → State → Type 0
  IsStop s commands n turns t =
      ((turns ≤ turns_of s.machine) × (run_to s commands n turns ≡ Some t))
      ⊎ (((turns < turns_of s.machine) × (run_to_step s commands n turns ≡ Some t))
      ⊎ ((turns ≡ 0) × (run_before s commands n ≡ Some t)))
