-- Commands in a run, of a session and of a step of a host function: this project's own.
use Rattle.std.specs.Prelude.{ℕ, List, length, reverse, None, Ok, Err}
use Rattle.wasm_syntax.specs.declared.declarations.ModuleDecl.{ModuleDecl}
use Rattle.wasm_values.specs.Handles.{instance_of}
use Rattle.wasm_values.specs.declared.refusals.Refusal.TheVariants as refusal
use Rattle.wasm_values.specs.declared.values.Val.{Val}
use Rattle.wasm_objects.specs.declared.raw.RawVal.{RawVal}
use Rattle.spec_machine.specs.Commands.{Row, Refuse, Act, ActAt, Grow, Invoke, Instantiate, row}
use Rattle.spec_machine.specs.Commands as machine
use Rattle.spec_machine.specs.FunctionCalls.{Called}
use Rattle.spec_machine.specs.Growth.{Decision, Granted, Failed, Faulted, Plan}
use Rattle.spec_machine.specs.Machine.{Machine}
use Rattle.spec_machine.specs.Names.{Scope}
use Rattle.spec_machine.specs.declared.command.Command.{Command}
use Rattle.spec_machine.specs.declared.operation.Op.{Op}
use Rattle.spec_machine.specs.declared.reply.Reply.{Reply}
use Rattle.spec_machine.specs.declared.reply.Reply.TheVariants as reply
use Rattle.spec_execution.specs.Askings.{Reading, Answer, Read}
use Rattle.spec_execution.specs.Checks.{decide}
use Rattle.spec_execution.specs.Entering.{Exec, values_at, entry}
use Rattle.spec_execution.specs.Instantiation.{instantiate}
use Rattle.spec_execution.specs.Outcomes.{World, State, Outcome, Values, Branch, Return, Over, End, Trapped, Refused, Stuck, turn, ask}

-- what a command comes to: its reply; or an early end, where it is stopped, waits for an answer or had no memory
pub data Finish : Type 0 where
  Replied : Reply → World → Finish
  Early : End → World → Finish

-- ---- code that a command runs

-- a function, with so many functions open around it, that no code of an instance calls
-- WebAssembly core specification, "Execution, modules, invocation"
abbrev pub invoke : Exec → ℕ → World → Called → Outcome
invoke f depth w c = entry f depth c.function c.arguments None w

-- its results as a host handles them
abbrev pub results_of : Machine → Called → List RawVal → List Val
results_of m c operands = values_at m c.results (reverse operands)

abbrev pub call_reply : Called → State → Reply
call_reply c s = reply.Values (results_of s.world.machine c s.operands)

-- the instance that an instantiation made behind those that were there
abbrev pub instance_reply : Machine → State → Reply
instance_reply before s = reply.Instance (instance_of before.id (length before.instances))

-- ---- a command, and what follows its reply; what follows may end early, too

module _ {O : Type 0} (early : End → World → O) where
  -- an act takes one turn, and a refusal none
  abbrev pub acts : World → Machine → Reply → (World → Reply → O) → O
  acts w after answer go = turn early w (λ v. go (record v { machine = after }) answer)

  abbrev pub grown : Plan Reply → (World → Reply → O) → Decision → World → O
  grown p go Granted w = acts w p.after p.gives go
  grown p go Failed w = go w (reply.Refused refusal.GrowFailed)
  grown p go Faulted w = go w (reply.Refused refusal.LimiterFault)

  -- an act at the reading of the epoch
  abbrev pub dated : (ℕ → Machine) → Reply → (World → Reply → O) → Answer → World → O
  dated after answer go (Read (Ok reading)) w = acts w (after reading) answer go
  dated after answer go (Read (Err fault)) w = go w (reply.Refused refusal.EpochFault)
  dated after answer go _ w = early Stuck w

  -- code that a command runs: its end by values has a reply, and so has one by a trap or a refusal
  abbrev pub by_end : (World → Reply → O) → End → World → O
  by_end go (Trapped t) w = go w (reply.Refused (refusal.Trap t))
  by_end go (Refused why) w = go w (reply.Refused why)
  by_end go e w = early e w

  abbrev pub by_run : (State → Reply) → (World → Reply → O) → Outcome → O
  by_run say go (Values s) = go s.world (say s)
  by_run say go (Over e w) = by_end go e w
  by_run say go (Branch l s) = early Stuck s.world
  by_run say go (Return s) = early Stuck s.world

  -- a command by its row, with so many functions open around it
  abbrev pub perform : Exec → ℕ → World → Row → (World → Reply → O) → O
  perform f depth w (Refuse why) go = go w (reply.Refused why)
  perform f depth w (Act after answer) go = acts w after answer go
  perform f depth w (ActAt after answer) go = ask early w Reading (dated after answer go)
  perform f depth w (Grow p) go = decide early w p (grown p go)
  perform f depth w (Invoke c) go = by_run (call_reply c) go (invoke f depth w c)
  perform f depth w (Instantiate d imports) go =
      by_run (instance_reply w.machine) go (instantiate f depth w d imports)

  -- an operation, whose names are looked up in a scope
  abbrev pub operation : Exec → ℕ → Scope → Op → World → (World → Reply → O) → O
  operation f depth s op w go = perform f depth w (machine.operation w.machine s op) go

-- an outermost command, over the modules of the session
abbrev pub replied : World → Reply → Finish
replied w answer = Replied answer w

abbrev pub command : Exec → List ModuleDecl → Scope → Command → World → Finish
command f modules s c w = perform Early f 0 w (row modules w.machine s c) replied
