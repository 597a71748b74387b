-- Commands, and operations of a host, of anything that may end early: where the reply is a refusal its cause was heard.
use Rattle.std.proofs.Common.{◌⊎◌, ℕ, List, None, Ok, Err, inl, inr, refl}
use Rattle.wasm_values.specs.declared.refusals.Refusal.{Refusal}
use Rattle.wasm_values.specs.declared.refusals.Refusal.TheVariants as refusal
use Rattle.spec_machine.specs.Commands.{Row, Refuse, Act, ActAt, Grow, Invoke, Instantiate}
use Rattle.spec_machine.specs.Commands as machine
use Rattle.spec_machine.specs.Growth.{Decision, Granted, Failed, Faulted, Plan}
use Rattle.spec_machine.specs.Machine.{Machine}
use Rattle.spec_machine.specs.Names.{Scope}
use Rattle.spec_machine.specs.declared.operation.Op.{Op}
use Rattle.spec_machine.specs.declared.reply.Reply.{Reply}
use Rattle.spec_machine.specs.declared.reply.Reply.TheVariants as reply
use Rattle.spec_execution.specs.Askings.{Reading, Answer, Read, Asking}
use Rattle.spec_execution.specs.Commands.{acts, grown, dated, by_run, call_reply, instance_reply, perform, operation}
use Rattle.spec_execution.specs.Entering.{Exec}
use Rattle.spec_execution.specs.Outcomes.{World, State, Outcome, Values, Branch, Return, Over, End, Trapped, Refused, Stuck}
use Rattle.law_causes.specs.Causes.{Reasons, IsVain, row_reasons}
use Rattle.law_causes.proofs.CausesHeard.{Gives}
use Rattle.law_causes.proofs.OwnRefusals.{IsOwn, IsOwnReply, IsOwnRow, operation_own, own_row_refuses, row_makes}
use Rattle.law_causes.proofs.Worlds.{Since, Behind, Caused, Ends, turn_since, ask_since, since_lasts, caused_own, caused_since, caused_behind, caused_for}
use Rattle.law_causes.proofs.Outcomes.{Keeps, Good, good_for}
use Rattle.law_causes.proofs.Checks.{Decided, vain_for, decide_since}
use Rattle.law_causes.proofs.Functions.{entry_keeps}
use Rattle.law_causes.proofs.Instantiation.{instantiate_keeps}

-- a reply, with its cause
module _ (B : List Asking) (reason : Reasons) where
  abbrev pub SaidSince : Reply → World → Type 0
  SaidSince (reply.Refused why) w = Caused B reason why w
  SaidSince answer w = Since B w

  pub record Said (answer : Reply) (w : World) : Type 0 where
    pub by : SaidSince answer w

  pub said_since : (answer : Reply) (w : World) → Said answer w → Since B w
  said_since (reply.Refused why) w h = caused_since B why w h.by
  said_since answer w h = h.by

  -- what is no refusal from outside, where each such is a reason
  abbrev OwnAre : Type 0
  OwnAre = (why : Refusal) → IsOwn why → reason.own why

  own_said : OwnAre → (answer : Reply) (w : World) → IsOwnReply answer → Since B w → Said answer w
  own_said are (reply.Refused why) w own h = record { by = caused_own B reason why w own.by (are why own.by) h }
  own_said are answer w own h = record { by = h }

  module _ {O : Type 0} {early : End → World → O} {ending : Reasons} {P : O → Type 0} (ends : Ends B early ending P)
      (go : World → Reply → O) (j : (v : World) (answer : Reply) → Said answer v → P (go v answer)) where
    acts_since :
        OwnAre → (w : World) (after : Machine) (answer : Reply) → IsOwnReply answer → Since B w
        → P (acts early w after answer go)
    acts_since are w after answer own h =
        turn_since B ends (since_lasts B) w _ h (λ v k.
        j (record v { machine = after }) answer
        (own_said are answer (record v { machine = after }) own (record { more = k.more; course = k.course })))

    grown_since :
        OwnAre → (p : Plan Reply) → IsOwnReply p.gives → (IsVain p → reason.own refusal.GrowFailed) → reason.grows
        → (d : Decision) (w : World) → Decided B p d w → P (grown early p go d w)
    grown_since are p own vain grows Granted w h = acts_since are w p.after p.gives own h.by
    grown_since are p own vain grows Failed w h =
        j w (reply.Refused refusal.GrowFailed)
        (record { by = caused_for B (vain_for p reason vain grows) refusal.GrowFailed w h.by })
    grown_since are p own vain grows Faulted w h =
        j w (reply.Refused refusal.LimiterFault)
        (record { by = caused_for B (vain_for p reason vain grows) refusal.LimiterFault w h.by })

    dated_since :
        OwnAre → (after : ℕ → Machine) (answer : Reply) → IsOwnReply answer → (a : Answer) (w : World) → Since B w
        → Behind B a w → P (dated early after answer go a w)
    dated_since are after answer own (Read (Ok reading)) w h b = acts_since are w (after reading) answer own h
    dated_since are after answer own (Read (Err fault)) w h b =
        j w (reply.Refused refusal.EpochFault)
        (record { by = caused_behind B reason refusal.EpochFault (Read (Err fault)) w b (inl refl) })
    dated_since are after answer own a w h b = ends.by Stuck w h

    by_run_since :
        OwnAre → (say : State → Reply) → ((s : State) → IsOwnReply (say s)) → (o : Outcome) → Keeps B reason o
        → P (by_run early say go o)
    by_run_since are say own (Values s) h = j s.world (say s) (own_said are (say s) s.world (own s) h.by)
    by_run_since are say own (Branch l s) h = ends.by Stuck s.world h.by
    by_run_since are say own (Return s) h = ends.by Stuck s.world h.by
    by_run_since are say own (Over (Trapped t) w) h = j w (reply.Refused (refusal.Trap t))
        (record { by = caused_own B reason (refusal.Trap t) w tt (are (refusal.Trap t) tt) h.by })
    by_run_since are say own (Over (Refused why) w) h = j w (reply.Refused why) (record { by = h.by })
    by_run_since are say own (Over e w) h = ends.by e w h.by

    module _ (f : Exec) (good : Good B reason f) (depth : ℕ) where
      abbrev Rows : Machine → Row → Type 0
      Rows m r = Gives (row_reasons m r) reason

      are_own : (m : Machine) (r : Row) → Rows m r → OwnAre
      are_own m r rows why own = rows.own why (own_row_refuses m r why own)

      pub perform_since :
          (w : World) (r : Row) → IsOwnRow r → Rows w.machine r → Since B w → P (perform early f depth w r go)
      perform_since w (Refuse why) own rows h =
          j w (reply.Refused why)
          (record { by = caused_own B reason why w own.by (are_own w.machine (Refuse why) rows why own.by) h })
      perform_since w (Act after answer) own rows h =
          acts_since (are_own w.machine (Act after answer) rows) w after answer own.by h
      perform_since w (ActAt after answer) own rows h =
          ask_since B ends (since_lasts B) w Reading _ h
          (dated_since (are_own w.machine (ActAt after answer) rows) after answer own.by)
      perform_since w (Grow p) own rows h =
          decide_since B ends w h p _
          (grown_since (are_own w.machine (Grow p) rows) p own.by (λ x. rows.own refusal.GrowFailed x)
          (rows.grows tt))
      perform_since w (Invoke c) own rows h =
          by_run_since (are_own w.machine (Invoke c) rows) (call_reply c) (λ s. record { by = tt }) _
          (entry_keeps B reason f good depth c.function c.arguments None w h)
      perform_since w (Instantiate d imports) own rows h =
          by_run_since (are_own w.machine (Instantiate d imports) rows) (instance_reply w.machine)
          (λ s. record { by = tt }) _
          (instantiate_keeps B reason f good depth d imports w (row_makes w.machine d imports reason rows) h)

abbrev either_reasons : Reasons → Reasons → Reasons
either_reasons one other =
    record { own = λ why. one.own why ⊎ other.own why; grows = one.grows ⊎ other.grows }

-- an operation of a host, whatever its reply
pub operation_since :
    (B : List Asking) (reason : Reasons) {O : Type 0} {early : End → World → O} {P : O → Type 0}
    (ends : Ends B early reason P) (go : World → Reply → O)
    → ((v : World) (answer : Reply) → Since B v → P (go v answer)) → (f : Exec) → Good B reason f
    → (depth : ℕ) (s : Scope) (op : Op) (w : World) → Since B w → P (operation early f depth s op w go)
operation_since B reason ends go j f good depth s op w h =
    let r : Row = machine.operation w.machine s op in
    let own : Reasons = either_reasons reason (row_reasons w.machine r) in
    perform_since B own ends go (λ v answer k. j v answer (said_since B own answer v k)) f
    (good_for B (record { own = λ why x. inl x; grows = λ x. inl x }) f good) depth w r (operation_own w.machine s op)
    (record { own = λ why x. inr x; grows = λ x. inr x }) h
