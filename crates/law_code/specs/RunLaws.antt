-- What holds of every run of commands, and of every stop of one: this project's own.
use Rattle.std.specs.Prelude.{◌≡◌, ℕ, ◌+◌, ◌≤◌, false, List, ◌++◌, length, take, Option, Some, slice_get, option_and_then, option_map}
use Rattle.wasm_types.specs.Each.{Each}
use Rattle.wasm_syntax.specs.Modules.{IsModule}
use Rattle.wasm_syntax.specs.declared.declarations.ModuleDecl.{ModuleDecl}
use Rattle.wasm_values.specs.declared.refusals.Refusal.{Refusal}
use Rattle.spec_machine.specs.Commands.{Refuse, row}
use Rattle.spec_machine.specs.Machine.{Machine}
use Rattle.spec_machine.specs.Names.{outermost}
use Rattle.spec_machine.specs.WellFormed.{IsWellFormed}
use Rattle.spec_machine.specs.declared.command.Command.{Command}
use Rattle.spec_machine.specs.declared.reply.Reply.TheVariants.{Refused}
use Rattle.law_store.specs.Later.{Extends}
use Rattle.law_store.specs.Laws.{KeepsObjects}
use Rattle.law_store.specs.Rows.{IsTyped, RunsNoCode, AsksLimiterAlone}
use Rattle.spec_execution.specs.Commands.{Replied, Early}
use Rattle.spec_execution.specs.Outcomes.{World, Stuck}
use Rattle.spec_execution.specs.Runs.{State, world_in, turns_of, finish_of, run, run_to, IsStop}
use Rattle.law_code.specs.Answers.{AreTyped}

-- commands in order, with a reply each
abbrev pub RunsFollow : Type 0
RunsFollow =
    (modules : List ModuleDecl) (s : State) (xs ys : List Command) →
    run modules s (xs ++ ys) ≡ option_and_then (λ t. run modules t ys) (run modules s xs)

abbrev pub EachHasAReply : Type 0
EachHasAReply =
    (modules : List ModuleDecl) (s t : State) (commands : List Command) → run modules s commands ≡ Some t →
    length t.replies ≡ length s.replies + length commands

-- ---- commands of all kinds, over modules that are valid and in which every type is a type

-- the store is well formed, and the types in the answers that are left are types
pub record MayRun (s : State) : Type 0 where
  pub well : IsWellFormed s.machine
  pub typed : AreTyped s.answers

-- the store is well formed and a later one: it keeps every object and its type, each constant global's value and what
-- each instance names, and no memory or table shrinks; and each handle tells so
-- WebAssembly core specification, "Soundness", preservation, store extension
pub record IsKept (m after : Machine) : Type 0 where
  pub well : IsWellFormed after
  pub later : Extends m after
  pub objects : KeepsObjects m after

abbrev pub RunKeepsWellFormed : Type 0
RunKeepsWellFormed =
    (modules : List ModuleDecl) (s t : State) (commands : List Command) → Each modules IsModule → MayRun s →
    Each commands IsTyped → run modules s commands ≡ Some t → IsKept s.machine t.machine

abbrev pub StopKeepsWellFormed : Type 0
StopKeepsWellFormed =
    (modules : List ModuleDecl) (s t : State) (commands : List Command) (n turns : ℕ) → Each modules IsModule →
    MayRun s → Each commands IsTyped → IsStop modules s commands n turns t → IsKept s.machine t.machine

-- no command is stuck, with at most the turns of its engine
abbrev pub CommandsAreNeverStuck : Type 0
CommandsAreNeverStuck =
    (modules : List ModuleDecl) (turns : ℕ) (s : State) (c : Command) (w : World) → Each modules IsModule →
    turns ≤ turns_of s.machine → MayRun s → IsTyped c → finish_of modules turns s c ≡ Early Stuck w → ⊥

-- ---- commands that run no code

-- a later store, and each handle tells so
pub record IsLater (m after : Machine) : Type 0 where
  pub later : Extends m after
  pub objects : KeepsObjects m after

abbrev pub RunKeepsObjects : Type 0
RunKeepsObjects =
    (modules : List ModuleDecl) (s t : State) (commands : List Command) → Each commands RunsNoCode →
    run modules s commands ≡ Some t → IsLater s.machine t.machine

abbrev pub StopKeepsObjects : Type 0
StopKeepsObjects =
    (modules : List ModuleDecl) (s t : State) (commands : List Command) (n turns : ℕ) → Each commands RunsNoCode →
    IsStop modules s commands n turns t → IsLater s.machine t.machine

-- from a well-formed store, whatever the answers
abbrev pub PlainRunKeepsWellFormed : Type 0
PlainRunKeepsWellFormed =
    (modules : List ModuleDecl) (s t : State) (commands : List Command) → IsWellFormed s.machine →
    Each commands IsTyped → Each commands RunsNoCode → run modules s commands ≡ Some t → IsWellFormed t.machine

abbrev pub PlainStopKeepsWellFormed : Type 0
PlainStopKeepsWellFormed =
    (modules : List ModuleDecl) (s t : State) (commands : List Command) (n turns : ℕ) → IsWellFormed s.machine →
    Each commands IsTyped → Each commands RunsNoCode → IsStop modules s commands n turns t → IsWellFormed t.machine

-- one that is refused leaves the store as it was
abbrev pub RefusedChangesNothing : Type 0
RefusedChangesNothing =
    (modules : List ModuleDecl) (turns : ℕ) (s : State) (c : Command) (why : Refusal) (w : World) → RunsNoCode c →
    finish_of modules turns s c ≡ Replied (Refused why) w → w.machine ≡ s.machine

-- a state that follows, with no question asked and no answer taken
pub record IsUnasked (s t : State) : Type 0 where
  pub heard : t.heard ≡ s.heard
  pub answers : t.answers ≡ s.answers
  pub is_limited : t.machine.is_limited ≡ false

pub record Unasked (s : State) (o : Option State) : Type 0 where
  pub state : State
  pub found : o ≡ Some state
  pub is : IsUnasked s state

-- without a limiter nothing is asked by commands that ask nobody else, and none waits
abbrev pub NothingIsAsked : Type 0
NothingIsAsked =
    (modules : List ModuleDecl) (s : State) (commands : List Command) → Each commands AsksLimiterAlone →
    s.machine.is_limited ≡ false → Unasked s (run modules s commands)

abbrev pub NothingIsAskedToAStop : Type 0
NothingIsAskedToAStop =
    (modules : List ModuleDecl) (s t : State) (commands : List Command) (n turns : ℕ) → Each commands AsksLimiterAlone →
    s.machine.is_limited ≡ false → IsStop modules s commands n turns t → IsUnasked s t

-- a stop before the first turn of such a command leaves the state of those before it, and took no turn
abbrev pub StopBeforeATurn : Type 0
StopBeforeATurn =
    (modules : List ModuleDecl) (s : State) (commands : List Command) (n : ℕ) (c : Command) →
    slice_get commands n ≡ Some c → RunsNoCode c →
    run_to modules s commands n 0 ≡ option_map (λ (t : State). record t { turns = 0 })
    (run modules s (take n commands))

-- ---- commands of all kinds

-- one that a condition refuses takes no turn, asks nothing and changes nothing
abbrev pub ConditionsChangeNothing : Type 0
ConditionsChangeNothing =
    (modules : List ModuleDecl) (turns : ℕ) (s : State) (c : Command) (why : Refusal) →
    row modules s.machine (outermost s.replies) c ≡ Refuse why →
    finish_of modules turns s c ≡ Replied (Refused why) (world_in turns s)

-- a stop before the first turn of a command leaves the store of those before it, but that an instantiation has raised
-- its counts; and it adds no reply
pub record IsBefore (u t : State) : Type 0 where
  pub machine : t.machine ≡ record u.machine { counts = t.machine.counts }
  pub replies : t.replies ≡ u.replies

abbrev pub StopBeforeAnyTurn : Type 0
StopBeforeAnyTurn =
    (modules : List ModuleDecl) (s t u : State) (commands : List Command) (n : ℕ) →
    run modules s (take n commands) ≡ Some u → run_to modules s commands n 0 ≡ Some t → IsBefore u t
