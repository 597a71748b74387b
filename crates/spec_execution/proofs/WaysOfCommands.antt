-- Two runs side by side: commands.
use Rattle.std.proofs.Common.{◌≡◌, ◌<◌, ℕ, suc, List, None, Ok, Err, refl, sym, ap, ◌∙◌, subst, arith}
use Rattle.wasm_syntax.specs.declared.declarations.ModuleDecl.{ModuleDecl}
use Rattle.wasm_values.specs.declared.refusals.Refusal.TheVariants as refusal
use Rattle.spec_machine.specs.Commands.{Row, Refuse, Act, ActAt, Grow, Invoke, Instantiate, row}
use Rattle.spec_machine.specs.Commands as machine
use Rattle.spec_machine.specs.Growth.{Decision, Granted, Failed, Faulted, Plan}
use Rattle.spec_machine.specs.Machine.{Machine}
use Rattle.spec_machine.specs.Names.{Scope}
use Rattle.spec_machine.specs.declared.command.Command.{Command}
use Rattle.spec_machine.specs.declared.operation.Op.{Op}
use Rattle.spec_machine.specs.declared.reply.Reply.{Reply}
use Rattle.spec_machine.specs.declared.reply.Reply.TheVariants as reply
use Rattle.spec_execution.specs.Askings.{Reading, Answer, Read}
use Rattle.spec_execution.specs.Commands.{Finish, Replied, Early, acts, grown, dated, by_run, call_reply, instance_reply, perform, operation, replied, command}
use Rattle.spec_execution.specs.Entering.{Exec}
use Rattle.spec_execution.specs.Outcomes.{World, State, Outcome, Values, Branch, Return, Over, End, Trapped, Refused, Stuck}
use Rattle.spec_execution.proofs.Ways.{Way, within, shift, shifted, Told, Below, Alike, Fits, Ends, ended, here, turn_alike, ask_alike, below_changed}
use Rattle.spec_execution.proofs.WaysOfChecks.{decide_alike}
use Rattle.spec_execution.proofs.WaysOfCalls.{entry_alike}
use Rattle.spec_execution.proofs.WaysOfInstantiation.{instantiate_alike}

-- in anything that may end early
module _ (W : Way) {O : Type 0} {early : End → World → O} {R : O → O → Type 0} (ends : Ends W early R) (n : ℕ) where
  -- what follows a reply
  abbrev pub Next : Type 0
  Next = World → Reply → O

  abbrev pub Replying : Next → Next → Type 0
  Replying go go' = (v : World) (answer : Reply) → Below W n v → R (go v answer) (go' (shift W v) answer)

  acts_alike :
      (w : World) (after : Machine) (answer : Reply) (go go' : Next) → Replying go go' → Below W n w
      → R (acts early w after answer go) (acts early (shift W w) after answer go')
  acts_alike w after answer go go' j b =
      turn_alike W ends n w (λ v. go (record v { machine = after }) answer)
      (λ v. go' (record v { machine = after }) answer) b
      (λ v c. j (record v { machine = after }) answer (below_changed W n v after c))

  grown_alike :
      (p : Plan Reply) (go go' : Next) → Replying go go' → (d : Decision) (w : World) → Below W n w
      → R (grown early p go d w) (grown early p go' d (shift W w))
  grown_alike p go go' j Granted w b = acts_alike w p.after p.gives go go' j b
  grown_alike p go go' j Failed w b = j w (reply.Refused refusal.GrowFailed) b
  grown_alike p go go' j Faulted w b = j w (reply.Refused refusal.LimiterFault) b

  dated_alike :
      (after : ℕ → Machine) (answer : Reply) (go go' : Next) → Replying go go' → (a : Answer) (w : World) → Below W n w
      → R (dated early after answer go a w) (dated early after answer go' a (shift W w))
  dated_alike after answer go go' j (Read (Ok reading)) w b = acts_alike w (after reading) answer go go' j b
  dated_alike after answer go go' j (Read (Err fault)) w b = j w (reply.Refused refusal.EpochFault) b
  dated_alike after answer go go' j a w b = ended W ends Stuck w b.held

  -- ---- code that a command runs, whose reply is the same in both runs

  -- its world, at its end, has no more turns than the one in which it began
  module _ (k : ℕ) (few : k < n) where
    abbrev V : Way
    V = within W k

    wider_way : (w : World) → V.Holds w → Below W n w
    wider_way w h = record { fewer = omega (arith, few, h.1); held = h.0 }

    module _ (say : State → Reply) (same : (s : State) → say (shifted W s) ≡ say s) (go go' : Next)
        (j : Replying go go') where
      goes_on :
          (w : World) (answer answer' : Reply) (o' : O) → answer' ≡ answer → o' ≡ go' (shift W w) answer'
          → V.Holds w → R (go w answer) o'
      goes_on w answer answer' o' e p h =
          subst (λ (x : O). R (go w answer) x) (sym (p ∙ ap (go' (shift W w)) e)) (j w answer (wider_way w h))

      by_run_alike : (o o' : Outcome) → Alike V n o o' → R (by_run early say go o) (by_run early say go' o')
      by_run_alike (Values s) o' h =
          goes_on s.world (say s) (say (shifted W s)) _ (same s) (ap (by_run early say go') h.by.0) h.by.1.held
      by_run_alike (Branch l s) o' h = ends.by Stuck s.world _ (λ _. ap (by_run early say go') h.by.0) h.by.1.held.0
      by_run_alike (Return s) o' h = ends.by Stuck s.world _ (λ _. ap (by_run early say go') h.by.0) h.by.1.held.0
      by_run_alike (Over (Trapped t) w) o' h =
          goes_on w (reply.Refused (refusal.Trap t)) _ _ refl (ap (by_run early say go') (h.by.0 tt)) h.by.1
      by_run_alike (Over (Refused why) w) o' h =
          goes_on w (reply.Refused why) _ _ refl (ap (by_run early say go') (h.by.0 tt)) h.by.1
      by_run_alike (Over e w) o' h = ends.by e w _ (λ c. ap (by_run early say go') (h.by.0 c)) h.by.1.0

  -- ---- a command by its row

  module _ (f g : Exec) (all : (V : Way) → Fits V n f g) (depth : ℕ) where
    begun : (w : World) → Below W n w → Below (within W w.turns) n w
    begun w b = record { fewer = b.fewer; held = (b.held, omega arith) }

    pub perform_alike :
        (w : World) (r : Row) (go go' : Next) → Replying go go' → Below W n w
        → R (perform early f depth w r go) (perform early g depth (shift W w) r go')
    perform_alike w (Refuse why) go go' j b = j w (reply.Refused why) b
    perform_alike w (Act after answer) go go' j b = acts_alike w after answer go go' j b
    perform_alike w (ActAt after answer) go go' j b =
        ask_alike W ends n w Reading (dated early after answer go) (dated early after answer go') b
        (dated_alike after answer go go' j)
    perform_alike w (Grow p) go go' j b =
        decide_alike W ends n w p (grown early p go) (grown early p go') (grown_alike p go go' j) b
    perform_alike w (Invoke c) go go' j b =
        by_run_alike w.turns b.fewer (call_reply c) (λ s. refl) go go' j _ _
        (entry_alike (within W w.turns) n f g (all (within W w.turns)) depth c.function c.arguments None w (begun w b))
    perform_alike w (Instantiate d imports) go go' j b =
        by_run_alike w.turns b.fewer (instance_reply w.machine) (λ s. refl) go go' j _ _
        (instantiate_alike (within W w.turns) n f g (all (within W w.turns)) depth d imports w (begun w b))

    pub operation_alike :
        (s : Scope) (op : Op) (w : World) (go go' : Next) → Replying go go' → Below W n w
        → R (operation early f depth s op w go) (operation early g depth s op (shift W w) go')
    operation_alike s op w go go' j b = perform_alike w (machine.operation w.machine s op) go go' j b

-- ---- an outermost command

module _ (W : Way) where
  abbrev pub Both : Finish → Finish → Type 0
  Both (Replied answer w) o = (o ≡ Replied answer (shift W w)) × W.Holds w
  Both (Early e w) o = (Told W e → o ≡ Early e (shift W w)) × W.Holds w

  pub record Together (o o' : Finish) : Type 0 where
    pub by : Both o o'

  finish_ends : Ends W Early Together
  finish_ends = record { by = λ e w o' c h. record { by = (c, h) } }

  module _ (f g : Exec) (modules : List ModuleDecl) (s : Scope) (c : Command) where
    -- it ends with its reply
    pub command_alike :
        (w : World) → ((V : Way) → Fits V (suc w.turns) f g) → W.Holds w
        → Together (command f modules s c w) (command g modules s c (shift W w))
    command_alike w all h =
        perform_alike W finish_ends (suc w.turns) f g all 0 w (row modules w.machine s c) replied replied
        (λ v answer b. record { by = (refl, b.held) }) (here W w h)
