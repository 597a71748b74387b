-- Commands, and operations of a host, are dialogues, where the code that they run is.
use Rattle.std.proofs.Common.{◌≡◌, ℕ, ◌<◌, ◌≤◌, List, None, refl, ap, ◌∙◌, arith, le_refl}
use Rattle.std.specs.Prelude.{Ok, Err}
use Rattle.wasm_syntax.specs.declared.declarations.ModuleDecl.{ModuleDecl}
use Rattle.wasm_values.specs.declared.refusals.Refusal.TheVariants as refusal
use Rattle.spec_machine.specs.Commands.{Row, Refuse, Act, ActAt, Grow, Invoke, Instantiate, row}
use Rattle.spec_machine.specs.Growth.{Decision, Granted, Failed, Faulted, Plan}
use Rattle.spec_machine.specs.Machine.{Machine}
use Rattle.spec_machine.specs.Names.{Scope}
use Rattle.spec_machine.specs.declared.command.Command.{Command}
use Rattle.spec_machine.specs.declared.reply.Reply.{Reply}
use Rattle.spec_machine.specs.declared.reply.Reply.TheVariants as reply
use Rattle.spec_execution.specs.Askings.{Asking, Reading, Answer, Read}
use Rattle.spec_execution.specs.Bodies.{exec}
use Rattle.spec_execution.specs.Commands.{Finish, Replied, Early, replied, acts, grown, dated, by_run, call_reply, instance_reply, perform, command}
use Rattle.spec_execution.specs.Entering.{entry}
use Rattle.spec_execution.specs.Instantiation.{instantiate}
use Rattle.spec_execution.specs.Outcomes.{World, State, Outcome, Values, Branch, Return, Over, Trapped, Refused, Stuck}
use Rattle.law_answers.proofs.Dialogues.{Ending, at, state_at, Reads, over, turn_reads, ask_reads, behind}
use Rattle.law_answers.proofs.CodeDialogues.{placed, HasTurns, code, Runs}
use Rattle.law_answers.proofs.DialoguesOfCalls.{Keeps, entry_reads}
use Rattle.law_answers.proofs.DialoguesOfChecks.{decide_reads}
use Rattle.law_answers.proofs.DialoguesOfInstantiation.{instantiate_reads}

-- by a function that is the same at each place
reads_as :
    (E : Ending) (f g : List Asking → List Answer → E.Result) → ((h : List Asking) (l : List Answer) → f h l ≡ g h l)
    → Reads E g → Reads E f
reads_as E f g e r = record { dialogue = r.dialogue; is = λ h l. e h l ∙ r.is h l; within = r.within }

module _ (E : Ending) (n : ℕ) (le : n ≤ E.limit) (go : World → Reply → E.Result)
    (j : (v : World) (answer : Reply) → v.turns < n → Reads E (λ h l. go (at v h l) answer)) where
  early : (t : ℕ) → t < n → t < E.limit
  early t few = omega (arith, few, le)

  acts_reads :
      (w : World) (after : Machine) (answer : Reply) → w.turns < n → Reads E (λ h l. acts E.early (at w h l) after answer go)
  acts_reads w after answer few =
      turn_reads E n w (λ v. go (record v { machine = after }) answer) (early w.turns few) few
      (λ v c d. j (record v { machine = after }) answer d)

  grown_reads :
      (p : Plan Reply) (d : Decision) (w : World) → w.turns < n → Reads E (λ h l. grown E.early p go d (at w h l))
  grown_reads p Granted w few = acts_reads w p.after p.gives few
  grown_reads p Failed w few = j w (reply.Refused refusal.GrowFailed) few
  grown_reads p Faulted w few = j w (reply.Refused refusal.LimiterFault) few

  dated_reads :
      (after : ℕ → Machine) (answer : Reply) (a : Answer) (w : World) → w.turns < n
      → Reads E (λ h l. dated E.early after answer go a (at w h l))
  dated_reads after answer (Read (Ok reading)) w few = acts_reads w (after reading) answer few
  dated_reads after answer (Read (Err fault)) w few = j w (reply.Refused refusal.EpochFault) few
  dated_reads after answer a w few = over E Stuck w (early w.turns few)

  -- ---- code that a command runs

  module _ (say : State → Reply) (same : (s : State) (h : List Asking) (l : List Answer) → say (state_at s h l) ≡ say s) where
    run_ends : (o : Outcome) → HasTurns n n o → Reads E (λ h l. by_run E.early say go (placed o h l))
    run_ends (Values s) b =
        reads_as E (λ h l. go (at s.world h l) (say (state_at s h l))) (λ h l. go (at s.world h l) (say s))
        (λ h l. ap (go (at s.world h l)) (same s h l)) (j s.world (say s) b)
    run_ends (Branch k s) b = over E Stuck s.world (early s.world.turns b)
    run_ends (Return s) b = over E Stuck s.world (early s.world.turns b)
    run_ends (Over (Trapped t) w) b = j w (reply.Refused (refusal.Trap t)) b
    run_ends (Over (Refused why) w) b = j w (reply.Refused why) b
    run_ends (Over e w) b = over E e w (early w.turns b)

    run_reads : (run : _) → Runs n n run → Reads E (λ h l. by_run E.early say go (run h l))
    run_reads run r = behind (code n n) E (by_run E.early say go) (λ q w. refl) run_ends run r

  -- ---- a command by its row

  module _ (keeps : Keeps n n) (depth : ℕ) where
    pub perform_reads : (w : World) (r : Row) → w.turns < n → Reads E (λ h l. perform E.early exec depth (at w h l) r go)
    perform_reads w (Refuse why) few = j w (reply.Refused why) few
    perform_reads w (Act after answer) few = acts_reads w after answer few
    perform_reads w (ActAt after answer) few =
        ask_reads E n w Reading (dated E.early after answer go) (early w.turns few) few
        (λ a v c d. dated_reads after answer a v d)
    perform_reads w (Grow p) few =
        decide_reads E n w p (grown E.early p go) (λ d v c e. grown_reads p d v e) (early w.turns few) few
    perform_reads w (Invoke c) few =
        run_reads (call_reply c) (λ s h l. refl) (λ h l. entry exec depth c.function c.arguments None (at w h l))
        (entry_reads n n (le_refl n) keeps depth c.function c.arguments None w few)
    perform_reads w (Instantiate d imports) few =
        run_reads (instance_reply w.machine) (λ s h l. refl) (λ h l. instantiate exec depth (at w h l) d imports)
        (instantiate_reads n n (le_refl n) keeps depth d imports w few)

-- ---- an outermost command

abbrev pub finish_placed : Finish → List Asking → List Answer → Finish
finish_placed (Replied answer w) h l = Replied answer (at w h l)
finish_placed (Early e w) h l = Early e (at w h l)

abbrev pub finish : ℕ → Ending
finish n = record {
  Result = Finish;
  early = Early;
  placed = finish_placed;
  limit = n;
  Fits = λ o. Unit {0};
  early_placed = λ e w h l. refl;
  early_fits = λ e w few. tt;
}

pub command_reads :
    (n : ℕ) → Keeps n n → (modules : List ModuleDecl) (s : Scope) (c : Command) (w : World) → w.turns < n
    → Reads (finish n) (λ h l. command exec modules s c (at w h l))
command_reads n keeps modules s c w few =
    perform_reads (finish n) n (le_refl n) replied
    (λ v answer d. record {
      dialogue = Rattle.law_answers.proofs.Dialogues.Ends (Replied answer v);
      is = λ h l. refl;
      within = tt;
    }) keeps 0 w (row modules w.machine s c) few
