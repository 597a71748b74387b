-- Runs of commands that run no code: they keep every object, a refused one changes nothing, and without a limiter
-- nothing is asked.
use Rattle.std.proofs.Common.{◌≡◌, ℕ, zero, suc, false, List, [], ◌∷◌, Option, Some, None, option_and_then, inl, inr, refl, sym, ap, ◌∙◌, subst, take, slice_get}
use Rattle.std.specs.Prelude.{nat_eq}
use Rattle.std.proofs.lemmas.Option.{same_Some, none-some}
use Rattle.wasm_types.specs.Each.{Each}
use Rattle.wasm_syntax.specs.declared.declarations.ModuleDecl.{ModuleDecl}
use Rattle.spec_machine.specs.Commands.{row}
use Rattle.spec_machine.specs.Machine.{Machine}
use Rattle.spec_machine.specs.Names.{outermost}
use Rattle.spec_machine.specs.WellFormed.{IsWellFormed}
use Rattle.spec_machine.specs.declared.command.Command.{Command}
use Rattle.law_store.specs.Later.{Extends, LeavesFlags}
use Rattle.law_store.specs.Rows.{LeavesBy, IsTyped, RunsNoCode, AsksLimiterAlone}
use Rattle.law_store.proofs.LaterStoreLemmas.{extends_own, extends_on}
use Rattle.law_store.proofs.Lists.{each_rest, each_take}
use Rattle.law_store.proofs.Objects.{keeps_objects}
use Rattle.law_store.proofs.RefusedCommandLemmas.{row_done, alone_runs_no_code}
use Rattle.law_store.proofs.Rest.{flags_own, flags_on}
use Rattle.law_store.proofs.Rows.{leaves_by, row_keeps, row_extends, row_leaves_flags}
use Rattle.spec_execution.specs.Bodies.{exec}
use Rattle.spec_execution.specs.Askings.{Answer}
use Rattle.spec_execution.specs.Commands.{Finish, Replied, Early, perform, replied}
use Rattle.spec_execution.specs.Outcomes.{Stopped}
use Rattle.spec_execution.specs.Runs.{State, world_in, behind, finished, stopped, exhausted, instantiates, turns_of, finish_of, step, run, next_by, run_before, IsStop}
use Rattle.spec_execution.proofs.LaterWorldLemmas.{end_of}
use Rattle.law_code.specs.RunLaws.{RunKeepsObjects, StopKeepsObjects, PlainRunKeepsWellFormed, PlainStopKeepsWellFormed, RefusedChangesNothing, ConditionsChangeNothing, IsUnasked, Unasked, NothingIsAsked, NothingIsAskedToAStop}
use Rattle.law_code.proofs.FollowLemmas.{if_some, map_some, step_holds, run_holds, stop_holds}
use Rattle.law_code.proofs.PlainRows.{row_holds, row_stays, IsStill, row_still}
use Rattle.law_code.proofs.NoReadingLemmas.{row_undated}

module _ (modules : List ModuleDecl) where
  -- a property of the store that every such command keeps, whatever the turns and the answers
  module _ (P : Machine → Type 0) where
    abbrev Kept : Machine → List Answer → Type 0
    Kept m answers = P m

    abbrev Any : ℕ → Type 0
    Any turns = Unit {0}

    any : (s : State) → Kept s.machine s.answers → Any (turns_of s.machine)
    any s h = tt

    module _ (IsGood : Command → Type 0) (plain : (c : Command) → IsGood c → RunsNoCode c)
        (leaves : (s : State) (c : Command) → P s.machine → IsGood c →
        LeavesBy P s.machine (row modules s.machine (outermost s.replies) c)) where
      keeps : (turns : ℕ) (s : State) (c : Command) → Any turns → P s.machine → IsGood c →
          P (end_of (finish_of modules turns s c)).machine
      keeps turns s c any_turns own g =
          row_holds P (world_in turns s) own (row modules s.machine (outermost s.replies) c)
          (row_done s.machine (outermost s.replies) modules c (plain c g)).is (leaves s c own g)

      pub step_keeps : (s t : State) (c : Command) → P s.machine → IsGood c → step modules s c ≡ Some t → P t.machine
      step_keeps s t c own g p = step_holds modules Kept Any IsGood any keeps s t c own g p

      pub run_keeps_by : (s t : State) (commands : List Command) → P s.machine → Each commands IsGood →
          run modules s commands ≡ Some t → P t.machine
      run_keeps_by s t commands own g p = run_holds modules Kept Any IsGood any keeps s t commands own g p

      pub stop_keeps : (s t : State) (commands : List Command) (n turns : ℕ) → P s.machine → Each commands IsGood →
          IsStop modules s commands n turns t → P t.machine
      stop_keeps s t commands n turns own g stop =
          stop_holds modules Kept Any IsGood any keeps s t commands n turns (λ k h. tt) own g stop

  itself : (c : Command) → RunsNoCode c → RunsNoCode c
  itself c n = n

  extends_from : (a : Machine) (s : State) (c : Command) → Extends a s.machine → RunsNoCode c →
      LeavesBy (Extends a) s.machine (row modules s.machine (outermost s.replies) c)
  extends_from a s c h n =
      leaves_by (Extends s.machine) (Extends a) s.machine (row modules s.machine (outermost s.replies) c)
      (λ x e. extends_on a s.machine x h e) (row_extends modules s.machine (outermost s.replies) c)

  flags_from : (a : Machine) (s : State) (c : Command) → LeavesFlags a s.machine → AsksLimiterAlone c →
      LeavesBy (LeavesFlags a) s.machine (row modules s.machine (outermost s.replies) c)
  flags_from a s c h n =
      leaves_by (LeavesFlags s.machine) (LeavesFlags a) s.machine (row modules s.machine (outermost s.replies) c)
      (λ x e. flags_on a s.machine x h e) (row_leaves_flags modules s.machine (outermost s.replies) c)

  pub run_extends : (s t : State) (commands : List Command) → Each commands RunsNoCode →
      run modules s commands ≡ Some t → Extends s.machine t.machine
  run_extends s t commands n p =
      run_keeps_by (Extends s.machine) RunsNoCode itself (extends_from s.machine) s t commands (extends_own s.machine) n
      p

  pub stop_extends : (s t : State) (commands : List Command) (n turns : ℕ) → Each commands RunsNoCode →
      IsStop modules s commands n turns t → Extends s.machine t.machine
  stop_extends s t commands n turns each stop =
      stop_keeps (Extends s.machine) RunsNoCode itself (extends_from s.machine) s t commands n turns
      (extends_own s.machine) each stop

  -- a well-formed store
  abbrev IsPlain : Command → Type 0
  IsPlain c = RunsNoCode c × IsTyped c

  plain : (c : Command) → IsPlain c → RunsNoCode c
  plain c g = g.0

  leaves_well : (s : State) (c : Command) → IsWellFormed s.machine → IsPlain c →
      LeavesBy IsWellFormed s.machine (row modules s.machine (outermost s.replies) c)
  leaves_well s c w g = row_keeps modules s.machine (outermost s.replies) c w g.1

  pub run_well : (s t : State) (commands : List Command) → IsWellFormed s.machine → Each commands IsTyped →
      Each commands RunsNoCode → run modules s commands ≡ Some t → IsWellFormed t.machine
  run_well s t commands w h n p =
      run_keeps_by IsWellFormed IsPlain plain leaves_well s t commands w (λ k c at. (n k c at, h k c at)) p

  pub stop_well : (s t : State) (commands : List Command) (n turns : ℕ) → IsWellFormed s.machine →
      Each commands IsTyped → Each commands RunsNoCode → IsStop modules s commands n turns t → IsWellFormed t.machine
  stop_well s t commands n turns w h each stop =
      stop_keeps IsWellFormed IsPlain plain leaves_well s t commands n turns w (λ k c at. (each k c at, h k c at)) stop

  -- ---- without a limiter

  still : (turns : ℕ) (s : State) (c : Command) → AsksLimiterAlone c → (free : s.machine.is_limited ≡ false) →
      IsStill (world_in turns s) free (finish_of modules turns s c)
  still turns s c n free =
      row_still (world_in turns s) free (row modules s.machine (outermost s.replies) c)
      (row_undated s.machine (outermost s.replies) modules c n).is
      (row_done s.machine (outermost s.replies) modules c (alone_runs_no_code c n)).is

  -- the state behind a command
  record Follows (s : State) (o : Option State) : Type 0 where
    state : State
    found : o ≡ Some state
    heard : state.heard ≡ s.heard
    answers : state.answers ≡ s.answers

  finishes : (turns : ℕ) (s : State) (free : s.machine.is_limited ≡ false) (x : Finish) →
      IsStill (world_in turns s) free x → Follows s (finished turns s x)
  finishes turns s free (Replied reply w) h = record { state = _; found = refl; heard = h.0; answers = h.1 }
  finishes turns s free (Early Stopped w) h = record { state = _; found = refl; heard = h.0; answers = h.1 }
  finishes turns s free (Early e w) h = absurd h

  pub step_unasked : (s : State) (c : Command) → AsksLimiterAlone c → s.machine.is_limited ≡ false →
      Unasked s (step modules s c)
  step_unasked s c n free =
      let turns : ℕ = turns_of s.machine in
      let f : Follows s (step modules s c) =
      finishes turns s free (finish_of modules turns s c) (still turns s c n free) in
      let rest : LeavesFlags s.machine f.state.machine =
      step_keeps (LeavesFlags s.machine) AsksLimiterAlone alone_runs_no_code (flags_from s.machine) s f.state c (flags_own s.machine) n
      f.found in
      record {
        state = f.state;
        found = f.found;
        is = record { heard = f.heard; answers = f.answers; is_limited = rest.is_limited ∙ free };
      }

  unasked_on : (s t u : State) → IsUnasked s t → IsUnasked t u → IsUnasked s u
  unasked_on s t u p q =
      record { heard = q.heard ∙ p.heard; answers = q.answers ∙ p.answers; is_limited = q.is_limited }

  pub run_unasked : (s : State) (commands : List Command) → Each commands AsksLimiterAlone → s.machine.is_limited ≡ false →
      Unasked s (run modules s commands)
  run_unasked s [] n free =
      record { state = s; found = refl; is = record { heard = refl; answers = refl; is_limited = free } }
  run_unasked s (c ∷ commands) n free =
      let a : Unasked s (step modules s c) = step_unasked s c (n zero c refl) free in
      let b : Unasked a.state (run modules a.state commands) =
      run_unasked a.state commands (each_rest AsksLimiterAlone c commands n) a.is.is_limited in
      record {
        state = b.state;
        found = ap (option_and_then (λ u. run modules u commands)) a.found ∙ b.found;
        is = unasked_on s a.state b.state a.is b.is;
      }

  -- ---- and to a stop

  -- nothing was heard
  record IsSame (s t : State) : Type 0 where
    heard : t.heard ≡ s.heard
    answers : t.answers ≡ s.answers

  same_by : (s t u : State) → u ≡ t → u.heard ≡ s.heard → u.answers ≡ s.answers → IsSame s t
  same_by s t u e h k = subst (IsSame s) e (record { heard = h; answers = k })

  stopped_same : (turns : ℕ) (s t : State) (free : s.machine.is_limited ≡ false) (x : Finish) →
      IsStill (world_in turns s) free x → stopped turns s x ≡ Some t → IsSame s t
  stopped_same turns s t free (Replied reply w) h p =
      same_by s t (behind turns w s.replies)
      (same_Some _ t (if_some (nat_eq w.turns 0) (Some (behind turns w s.replies)) t p)) h.0 h.1
  stopped_same turns s t free (Early Stopped w) h p = same_by s t _ (same_Some _ t p) h.0 h.1
  stopped_same turns s t free (Early e w) h p = absurd h

  -- no step of the host is asked
  exhausted_none : (turns : ℕ) (s t : State) (free : s.machine.is_limited ≡ false) (x : Finish) →
      IsStill (world_in turns s) free x → exhausted turns s x ≡ Some t → IsSame s t
  exhausted_none turns s t free (Replied reply w) h p = absurd (none-some t p)
  exhausted_none turns s t free (Early Stopped w) h p = absurd (none-some t p)
  exhausted_none turns s t free (Early e w) h p = absurd h

  next_same : (ended : ℕ → State → Finish → Option State) →
      ((turns : ℕ) (s t : State) (free : s.machine.is_limited ≡ false) (x : Finish) →
      IsStill (world_in turns s) free x → ended turns s x ≡ Some t → IsSame s t) →
      (turns : ℕ) (s t : State) (o : Option Command) → ((c : Command) → o ≡ Some c → AsksLimiterAlone c) →
      s.machine.is_limited ≡ false → next_by modules ended turns o s ≡ Some t → IsSame s t
  next_same ended same turns s t None n free p = absurd (none-some t p)
  next_same ended same turns s t (Some c) n free p =
      same turns s t free (finish_of modules turns s c) (still turns s c (n c refl) free) p

  module _ (s t : State) (commands : List Command) (n : ℕ) (each : Each commands AsksLimiterAlone)
      (free : s.machine.is_limited ≡ false) where
    before : Unasked s (run modules s (take n commands))
    before = run_unasked s (take n commands) (each_take AsksLimiterAlone n commands each) free

    after_same : (ended : ℕ → State → Finish → Option State) →
        ((turns : ℕ) (s t : State) (free : s.machine.is_limited ≡ false) (x : Finish) →
        IsStill (world_in turns s) free x → ended turns s x ≡ Some t → IsSame s t) → (turns : ℕ) →
        option_and_then (next_by modules ended turns (slice_get commands n)) (run modules s (take n commands))
        ≡ Some t →
        IsSame s t
    after_same ended same turns p =
        let u : State = before.state in
        let x : IsSame u t =
        next_same ended same turns u t (slice_get commands n) (λ c at. each n c at) before.is.is_limited
        (sym (ap (option_and_then (next_by modules ended turns (slice_get commands n))) before.found) ∙ p) in
        record { heard = x.heard ∙ before.is.heard; answers = x.answers ∙ before.is.answers }

    before_same : run_before modules s commands n ≡ Some t → IsSame s t
    before_same p =
        let r : (u : State) × (run modules s (take n commands) ≡ Some u) × (record u { turns = 0 } ≡ t) =
        map_some (λ (u : State). record u { turns = 0 }) (run modules s (take n commands)) t
        (if_some (instantiates (slice_get commands n)) _ t p) in
        let e : before.state ≡ r.0 = same_Some before.state r.0 (sym before.found ∙ r.1) in
        same_by s t (record r.0 { turns = 0 }) r.2
        (ap (λ (x : State). x.heard) (sym e) ∙ before.is.heard)
        (ap (λ (x : State). x.answers) (sym e) ∙ before.is.answers)

    stop_same : (turns : ℕ) → IsStop modules s commands n turns t → IsSame s t
    stop_same turns stop =
        elim stop [
          | inl p ↦ after_same stopped stopped_same turns p.1
          | inr q ↦ elim q [
            | inl p ↦ after_same exhausted exhausted_none (suc turns) p.1
            | inr p ↦ before_same p.1
          ]
        ]

    pub stop_unasked : (turns : ℕ) → IsStop modules s commands n turns t → IsUnasked s t
    stop_unasked turns stop =
        let x : IsSame s t = stop_same turns stop in
        let rest : LeavesFlags s.machine t.machine =
        stop_keeps (LeavesFlags s.machine) AsksLimiterAlone alone_runs_no_code (flags_from s.machine) s t commands n turns
        (flags_own s.machine) each stop in
        record { heard = x.heard; answers = x.answers; is_limited = rest.is_limited ∙ free }

pub run_keeps_objects : RunKeepsObjects
run_keeps_objects modules s t commands n p =
    let e : Extends s.machine t.machine = run_extends modules s t commands n p in
    record { later = e; objects = keeps_objects s.machine t.machine e }

pub stop_keeps_objects : StopKeepsObjects
stop_keeps_objects modules s t commands n turns each p =
    let e : Extends s.machine t.machine = stop_extends modules s t commands n turns each p in
    record { later = e; objects = keeps_objects s.machine t.machine e }

pub plain_run_keeps : PlainRunKeepsWellFormed
plain_run_keeps = run_well

pub plain_stop_keeps : PlainStopKeepsWellFormed
plain_stop_keeps = stop_well

pub refused_changes_nothing : RefusedChangesNothing
refused_changes_nothing modules turns s c why w n e =
    row_stays (world_in turns s) why (row modules s.machine (outermost s.replies) c)
    (row_done s.machine (outermost s.replies) modules c n).is w e

pub conditions_change_nothing : ConditionsChangeNothing
conditions_change_nothing modules turns s c why e =
    ap (λ r. perform Early exec 0 (world_in turns s) r replied) e

pub nothing_is_asked : NothingIsAsked
nothing_is_asked = run_unasked

pub nothing_is_asked_to_a_stop : NothingIsAskedToAStop
nothing_is_asked_to_a_stop modules s t commands n turns each free stop =
    stop_unasked modules s t commands n each free turns stop
