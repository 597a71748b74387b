-- Commands, and operations of a host, of anything that may end early: what goes on behind a reply has the calls open
-- that were open before.
use Rattle.std.proofs.Common.{◌≡◌, ℕ, List, [], None, Ok, Err, refl, ap, ◌∙◌}
use Rattle.std.specs.Prelude.{Bool}
use Rattle.wasm_values.specs.declared.refusals.Refusal.TheVariants as refusal
use Rattle.wasm_meter.specs.declared.call_hook.CallHook.{CallHook}
use Rattle.spec_machine.specs.Commands.{Row, Refuse, Act, ActAt, Grow, Invoke, Instantiate}
use Rattle.spec_machine.specs.Commands as machine
use Rattle.spec_machine.specs.Growth.{Decision, Granted, Failed, Faulted, Plan}
use Rattle.spec_machine.specs.Machine.{Machine}
use Rattle.spec_machine.specs.Names.{Scope}
use Rattle.spec_machine.specs.declared.command.Command.TheVariants as command
use Rattle.spec_machine.specs.declared.operation.Op.{Op}
use Rattle.spec_machine.specs.declared.reply.Reply.{Reply}
use Rattle.spec_machine.specs.declared.reply.Reply.TheVariants as reply
use Rattle.spec_execution.specs.Askings.{Reading, Answer, Read}
use Rattle.spec_execution.specs.Commands.{acts, grown, dated, by_run, call_reply, instance_reply, perform, operation}
use Rattle.spec_execution.specs.Entering.{Exec}
use Rattle.spec_execution.specs.Outcomes.{World, State, Outcome, Values, Branch, Return, Over, End, Trapped, Refused, Stuck}
use Rattle.law_store.specs.Later.{LeavesFlags}
use Rattle.law_store.specs.Rows.{LeavesBy}
use Rattle.law_store.proofs.Rows.{row_leaves_flags}
use Rattle.law_hooks.specs.Askers.{Flags, flags_of}
use Rattle.law_hooks.proofs.Worlds.{Base, Stands, Ends, ended, turn_stands, ask_stands, stands_in}
use Rattle.law_hooks.proofs.Outcomes.{Finishes, Good}
use Rattle.law_hooks.proofs.Checks.{decide_stands}
use Rattle.law_hooks.proofs.Functions.{entry_finishes}
use Rattle.law_hooks.proofs.Instantiation.{instantiate_finishes}

same_flags : (m after : Machine) → LeavesFlags m after → flags_of after ≡ flags_of m
same_flags m after l =
    ap (λ (b : Bool). let f : Flags = record { hooked = b; behaving = after.is_behaving } in f) l.is_hooked
    ∙ ap (λ (b : Bool). let f : Flags = record { hooked = m.is_hooked; behaving = b } in f) l.is_behaving

module _ (B : Base) {O : Type 0} {early : End → World → O} {calls : List CallHook} {P : O → Type 0}
    (ends : Ends B early calls P) (go : World → Reply → O)
    (j : (v : World) (answer : Reply) → Stands B calls v → P (go v answer)) where
  acts_stands :
      (w : World) (after : Machine) (answer : Reply) → flags_of after ≡ B.flags → Stands B calls w
      → P (acts early w after answer go)
  acts_stands w after answer e h =
      turn_stands B ends w _ h (λ v k. j (record v { machine = after }) answer (stands_in B calls v after e k))

  grown_stands :
      (p : Plan Reply) (d : Decision) (w : World) → (d ≡ Granted → flags_of p.after ≡ B.flags) → Stands B calls w
      → P (grown early p go d w)
  grown_stands p Granted w e h = acts_stands w p.after p.gives (e refl) h
  grown_stands p Failed w e h = j w (reply.Refused refusal.GrowFailed) h
  grown_stands p Faulted w e h = j w (reply.Refused refusal.LimiterFault) h

  dated_stands :
      (after : ℕ → Machine) (answer : Reply) → ((reading : ℕ) → flags_of (after reading) ≡ B.flags) → (a : Answer)
      (w : World) → Stands B calls w → P (dated early after answer go a w)
  dated_stands after answer e (Read (Ok reading)) w h = acts_stands w (after reading) answer (e reading) h
  dated_stands after answer e (Read (Err fault)) w h = j w (reply.Refused refusal.EpochFault) h
  dated_stands after answer e a w h = ended B ends Stuck w h

  by_run_stands : (say : State → Reply) (o : Outcome) → Finishes B calls o → P (by_run early say go o)
  by_run_stands say (Values s) h = j s.world (say s) h.by
  by_run_stands say (Branch l s) h = absurd h.by
  by_run_stands say (Return s) h = absurd h.by
  by_run_stands say (Over (Trapped t) w) h = j w (reply.Refused (refusal.Trap t)) h.by
  by_run_stands say (Over (Refused why) w) h = j w (reply.Refused why) h.by
  by_run_stands say (Over e w) h = ends.by e w h.by

  module _ (f : Exec) (good : Good B f) (depth : ℕ) where
    pub perform_stands :
        (w : World) (r : Row) → LeavesBy (LeavesFlags w.machine) w.machine r → Stands B calls w
        → P (perform early f depth w r go)
    perform_stands w (Refuse why) l h = j w (reply.Refused why) h
    perform_stands w (Act after answer) l h = acts_stands w after answer (same_flags w.machine after l ∙ h.flags) h
    perform_stands w (ActAt after answer) l h =
        ask_stands B ends w Reading _ (λ a e. (refl, e)) h
        (dated_stands after answer (λ reading. same_flags w.machine (after reading) (l reading) ∙ h.flags))
    perform_stands w (Grow p) l h =
        decide_stands B ends w h p _ (λ d v granted k.
        grown_stands p d v (λ e. same_flags w.machine p.after (l (granted e)) ∙ h.flags) k)
    perform_stands w (Invoke c) l h =
        by_run_stands (call_reply c) _ (entry_finishes B calls f good depth c.function c.arguments None w h)
    perform_stands w (Instantiate d imports) l h =
        by_run_stands (instance_reply w.machine) _ (instantiate_finishes B calls f good depth d imports w h)

    pub operation_stands :
        (s : Scope) (op : Op) (w : World) → Stands B calls w → P (operation early f depth s op w go)
    operation_stands s op w h =
        perform_stands w (machine.operation w.machine s op) (row_leaves_flags [] w.machine s (command.Op op)) h
