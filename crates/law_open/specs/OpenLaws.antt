-- What holds of a call wherever it pauses, and of a call in slices. This project's own.
use Rattle.std.specs.Prelude.{◌≡◌, ℕ, suc, ◌+◌, ◌-◌, ◌≤◌, List, [], ◌∷◌, ◌++◌, length, take, slice_get, Some, None, Bool, Result, Ok, Err}
use Rattle.wasm_types.specs.Each.{Each}
use Rattle.wasm_syntax.specs.Modules.{IsModule}
use Rattle.wasm_syntax.specs.declared.declarations.ModuleDecl.{ModuleDecl}
use Rattle.wasm_meter.specs.declared.faults.EpochFailed.{EpochFailed}
use Rattle.wasm_meter.specs.declared.faults.LimiterFailed.{LimiterFailed}
use Rattle.wasm_values.specs.declared.refusals.Refusal.{Refusal}
use Rattle.wasm_values.specs.declared.refusals.Refusal.TheVariants.{EpochFault, GrowFailed, LimiterFault}
use Rattle.spec_machine.specs.Commands.{Refuse, Act, ActAt, Grow, Invoke, operation, row}
use Rattle.spec_machine.specs.FunctionCalls.{Called}
use Rattle.spec_machine.specs.Growth.{Grows, Fails, Asks, Granted, Failed, Faulted, Plan, plan_rule, answered_growth}
use Rattle.spec_machine.specs.Machine.{Machine}
use Rattle.spec_machine.specs.Names.{Scope, outermost}
use Rattle.spec_machine.specs.declared.command.Command.{Command}
use Rattle.spec_machine.specs.declared.operation.Op.{Op}
use Rattle.spec_machine.specs.declared.reply.Reply.{Reply}
use Rattle.spec_machine.specs.declared.reply.Reply.TheVariants.{Refused}
use Rattle.spec_execution.specs.Askings.{Growing, Reading, Answer, Grown, Read, Asking, answers_in}
use Rattle.spec_execution.specs.Outcomes.{world, Over, Waiting}
use Rattle.spec_execution.specs.Runs.{State, state, turns_of, run, IsStop}
use Rattle.spec_execution.specs.declared.answer.Answer.{Answer as Say}
use Rattle.spec_execution.specs.declared.answer.Answer.TheVariants as say
use Rattle.spec_reach.specs.Inside.{SameInside}
use Rattle.spec_reach.specs.Nodes.{Node}
use Rattle.spec_reach.specs.Outside.{SameOutside, new_nodes}
use Rattle.spec_reach.specs.Reach.{reach}
use Rattle.spec_reach.specs.ReachLaws.{HoldsReach}
use Rattle.spec_reach.specs.Roots.{call_roots}
use Rattle.law_store.specs.Rows.{IsTyped}
use Rattle.law_code.specs.RunLaws.{MayRun, IsKept}
use Rattle.law_confined.specs.Laws.{KeepsReach}
use Rattle.law_confined.specs.RunLaws.{IsShown}
use Rattle.law_confined.specs.Shown.{unshown}
use Rattle.law_open.specs.Opens.{Open, whole, halted, begun, Stands, Rests, IsPaused, GoesOn, Part, InParts, all_heard, Replies}
use Rattle.law_open.specs.Steps.{Passes, StepDue, asked, answering, answered, ComesTo, AskedComesTo, told_reply, asked_row, around_call, inner_call}

-- ---- where it pauses

-- a command that calls a function, in a state of a run with these answers, pauses in this open call
pub record PausesIn (modules : List ModuleDecl) (s : State) (command : Command) (c : Called) (heard : List Asking)
    (rest : List Answer) (x : Open) : Type 0 where
  pub may_run : MayRun s
  pub modules_are : Each modules IsModule
  pub typed : IsTyped command
  pub calls : row modules s.machine (outermost s.replies) command ≡ Invoke c
  pub answers : s.answers ≡ answers_in heard ++ rest
  pub paused : IsPaused c s.machine heard x

-- so each run whose next command it is, is stopped there after as many turns as were made
abbrev pub PausesAreStops : Type 0
PausesAreStops =
    (modules : List ModuleDecl) (begin s : State) (commands : List Command) (n : ℕ) (command : Command) (c : Called)
    (heard : List Asking) (rest : List Answer) (x : Open) → MayRun begin → Each commands IsTyped →
    run modules begin (take n commands) ≡ Some s → slice_get commands n ≡ Some command →
    PausesIn modules s command c heard rest x →
    IsStop modules begin commands n x.made (state x.machine x.made s.replies (s.heard ++ heard) rest)

-- and its store is well formed and a later one
abbrev pub PausesKeep : Type 0
PausesKeep =
    (modules : List ModuleDecl) (s : State) (command : Command) (c : Called) (heard : List Asking) (rest : List Answer)
    (x : Open) → PausesIn modules s command c heard rest x → IsKept s.machine x.machine

-- what a call leads to: from its function and its arguments, and from the functions that bodies handed out so far and were
-- not shown
abbrev pub open_roots : Called → Machine → List Asking → List Node
open_roots c first heard = call_roots c.function c.arguments None ++ unshown first.id heard

-- a property of the store where a call began, of the one at a pause, and of what leads to it so far: of each pause, whatever
-- the store, the code and the answers
abbrev pub AtPauses : (Machine → Machine → List Node → Type 0) → Type 0
AtPauses P =
    (c : Called) (first : Machine) (heard : List Asking) (x : Open) → IsPaused c first heard x →
    P first x.machine (open_roots c first heard)

-- nothing outside of what is reached is changed, nor outside of any set that holds it
abbrev pub PausesConfine : Type 0
PausesConfine = AtPauses (λ m after from. SameOutside (reach m from) m after)

abbrev pub PausesConfineToSets : Type 0
PausesConfineToSets = AtPauses (λ m after from. (set : List Node) → HoldsReach m from set → SameOutside set m after)

-- where bodies handed out no function that they were not shown, what leads from its function and its arguments is all of it
abbrev pub PausesConfineNamed : Type 0
PausesConfineNamed =
    (c : Called) (first : Machine) (heard : List Asking) (x : Open) → IsPaused c first heard x → IsShown heard →
    SameOutside (reach first (call_roots c.function c.arguments None)) first x.machine

-- and what was out of reach is out of reach
abbrev pub PausesKeepReach : Type 0
PausesKeepReach = AtPauses (λ m after from. KeepsReach m after (reach m from))

-- from a second store that is the same inside of what is reached, the call with the same answers stands at this pause too; and
-- the two stores are the same there, inside of what is reached from the set and from what is new
pub record SeesPause (c : Called) (first : Machine) (heard : List Asking) (x : Open) (set : List Node) (second : Machine) :
    Type 0 where
  pub after : Machine
  pub stands : halted (whole c (world second x.made [] (answers_in heard))) ≡ Some (world after 0 heard [])
  pub inside : SameInside (reach x.machine (set ++ new_nodes first x.machine)) x.machine after

-- so nothing outside of it was read
abbrev pub PausesSee : Type 0
PausesSee =
    (c : Called) (first : Machine) (heard : List Asking) (x : Open) → IsPaused c first heard x → (second : Machine) →
    let set = reach first (open_roots c first heard) in
    SameInside set first second → SeesPause c first heard x set second

-- ---- how it goes on

-- a call of which nothing was done is that call
abbrev pub BeginningsStand : Type 0
BeginningsStand = (c : Called) (first : Machine) → Stands c first [] (begun c first)

-- an open call behind an open call is one of the same call
abbrev pub GoingOnStands : Type 0
GoingOnStands =
    (c : Called) (first : Machine) (heard more : List Asking) (x y : Open) → Stands c first heard x →
    GoesOn x more y → y.made ≤ turns_of first → Stands c first (heard ++ more) y

-- it ends so in parts, as it does whole with as many turns: reply, store, turns that are left, and what was heard
abbrev pub SlicesAreWhole : Type 0
SlicesAreWhole =
    (c : Called) (first n : Machine) (turns unused : ℕ) (parts : List Part) (x : Open) (more : List Asking)
    (reply : Reply) → InParts (begun c first) parts x → x.made ≤ turns →
    Replies c x.due x.machine (turns - x.made) more reply n unused →
    Replies c (whole c) first turns (all_heard parts ++ more) reply n unused

-- two ways of cutting it that were given the same answers end in one way
abbrev pub SlicesEndAlike : Type 0
SlicesEndAlike =
    (c : Called) (first n n' : Machine) (turns unused unused' : ℕ) (heard heard' : List Asking)
    (rest rest' : List Answer) (reply reply' : Reply) →
    Replies c (whole c) first turns heard reply n unused → Replies c (whole c) first turns heard' reply' n' unused' →
    answers_in heard ++ rest ≡ answers_in heard' ++ rest' →
    (reply ≡ reply') × (n ≡ n') × (unused ≡ unused') × (heard ≡ heard') × (rest ≡ rest')

-- each part makes a turn, so there are no more of them than turns
abbrev pub SlicesAreFew : Type 0
SlicesAreFew = (x y : Open) (parts : List Part) → InParts x parts y → length parts + x.made ≤ y.made

-- ---- where a step of a body is due

-- with a turn left and no answer, the call waits for that step
abbrev pub StepsAreAsked : Type 0
StepsAreAsked =
    (c : Called) (first : Machine) (heard : List Asking) (x : Open) (s : StepDue x) → Stands c first heard x →
    (extra : ℕ) (before : List Asking) →
    let there = world x.machine (suc extra) (before ++ heard) [] in
    whole c (world first (x.made + suc extra) before (answers_in heard)) ≡ Over (Waiting (asked x s)) there

-- without a turn it is stopped before it, and so it rests there
abbrev pub StepsRest : Type 0
StepsRest = (x : Open) → StepDue x → Rests x

-- an answer takes a turn, and leads to what was said
abbrev pub AnswersGoOn : Type 0
AnswersGoOn =
    (x : Open) (s : StepDue x) (after : ℕ) (what : Say) → GoesOn x (answering x s after what) (answered x s after what)

-- so does an operation, with the turns and what is heard of its own: behind its reply the next step is due, which sees it
abbrev pub OperationsGoOn : Type 0
OperationsGoOn =
    (x : Open) (s : StepDue x) (after spent : ℕ) (op : Op) (heard : List Asking) (reply : Reply) (n : Machine) →
    AskedComesTo x s after op spent heard reply n →
    GoesOn x (answering x s after (say.Call op) ++ heard) (told_reply x s after reply (suc x.made + spent) n)

-- how an operation comes to its reply, by its row: a refusal takes no turn, an act one, and each question one more
pub record OperationsCome : Type 0 where
  pub refused :
      (depth : ℕ) (scope : Scope) (op : Op) (m : Machine) (why : Refusal) → operation m scope op ≡ Refuse why →
      ComesTo depth scope op m 0 [] (Refused why) m
  pub acts :
      (depth : ℕ) (scope : Scope) (op : Op) (m n : Machine) (reply : Reply) → operation m scope op ≡ Act n reply →
      ComesTo depth scope op m 1 [] reply n
  pub dated :
      (depth : ℕ) (scope : Scope) (op : Op) (m : Machine) (at : ℕ → Machine) (reply : Reply) (reading : ℕ) →
      operation m scope op ≡ ActAt at reply →
      ComesTo depth scope op m 2 ((Reading, Read (Ok reading)) ∷ []) reply (at reading)
  pub undated :
      (depth : ℕ) (scope : Scope) (op : Op) (m : Machine) (at : ℕ → Machine) (reply : Reply) (fault : EpochFailed) →
      operation m scope op ≡ ActAt at reply →
      ComesTo depth scope op m 1 ((Reading, Read (Err fault)) ∷ []) (Refused EpochFault) m
  pub grown :
      (depth : ℕ) (scope : Scope) (op : Op) (m : Machine) (p : Plan Reply) → operation m scope op ≡ Grow p →
      plan_rule m p ≡ Grows → ComesTo depth scope op m 1 [] p.gives p.after
  pub not_grown :
      (depth : ℕ) (scope : Scope) (op : Op) (m : Machine) (p : Plan Reply) → operation m scope op ≡ Grow p →
      plan_rule m p ≡ Fails → ComesTo depth scope op m 0 [] (Refused GrowFailed) m
  pub granted :
      (depth : ℕ) (scope : Scope) (op : Op) (m : Machine) (p : Plan Reply) (answer : Result Bool LimiterFailed) →
      operation m scope op ≡ Grow p → plan_rule m p ≡ Asks → answered_growth p.growth answer ≡ Granted →
      ComesTo depth scope op m 2 ((Growing p.growth, Grown answer) ∷ []) p.gives p.after
  pub not_granted :
      (depth : ℕ) (scope : Scope) (op : Op) (m : Machine) (p : Plan Reply) (answer : Result Bool LimiterFailed) →
      operation m scope op ≡ Grow p → plan_rule m p ≡ Asks → answered_growth p.growth answer ≡ Failed →
      ComesTo depth scope op m 1 ((Growing p.growth, Grown answer) ∷ []) (Refused GrowFailed) m
  pub not_limited :
      (depth : ℕ) (scope : Scope) (op : Op) (m : Machine) (p : Plan Reply) (answer : Result Bool LimiterFailed) →
      operation m scope op ≡ Grow p → plan_rule m p ≡ Asks → answered_growth p.growth answer ≡ Faulted →
      ComesTo depth scope op m 1 ((Growing p.growth, Grown answer) ∷ []) (Refused LimiterFault) m

-- where it is the call of a function, that function is called, and its reply goes to the next step
abbrev pub CallsGoOn : Type 0
CallsGoOn =
    (x : Open) (s : StepDue x) (after : ℕ) (op : Op) (c : Called) → asked_row x s after op ≡ Invoke c →
    GoesOn x (answering x s after (say.Call op)) (inner_call x s after c) × Passes (around_call s after c)
