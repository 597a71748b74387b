-- The check before a function and before a round of a loop, in the stores of a run.
use Rattle.std.proofs.Common.{◌≡◌, ℕ, ◌+◌, ◌-◌, List, [], refl, sym, ap, ◌∙◌, subst, arith, Bool, true, false}
use Rattle.std.specs.Prelude.{cond, min, ◌^◌, nat_lt, not, ◌||◌, ◌&&◌, int_lt, pos, Ok, Err}
use Rattle.wasm_meter.specs.declared.deadline.UpdateDeadline.TheVariants as update
use Rattle.wasm_meter.specs.declared.faults.BehaviourFailed.{BehaviourFailed}
use Rattle.wasm_meter.specs.declared.faults.EpochFailed.{EpochFailed}
use Rattle.wasm_values.specs.declared.refusals.Refusal.TheVariants as refusal
use Rattle.wasm_values.specs.declared.refusals.Trap.TheVariants as trap
use Rattle.spec_machine.specs.Changes.{set_deadline}
use Rattle.spec_machine.specs.Machine.{Machine}
use Rattle.spec_execution.specs.Askings.{Question, Reading, Behaving, Answer, Read, Behaved, Asking}
use Rattle.spec_execution.specs.Checks.{deadline, renewed, behaved, at_deadline, read, on_epoch, on_fuel, check}
use Rattle.spec_execution.specs.Outcomes.{Over, Trapped, Refused, ask}
use Rattle.store_state.specs.Parts.{ProgramParts, HeldParts}
use Rattle.code_run.specs.Checking.{Part, Checks}
use Rattle.code_leaps.specs.Leading.{Doing, at, Leads}
use Rattle.code_leaps.specs.Running.{IsRuled, ruled}
use Rattle.code_run.specs.declared.checks.Verdict.TheVariants as check_is
use Rattle.code_run.specs.declared.checks.Checked.{Checked}
use Rattle.code_stack.specs.declared.rules.Rules.{Rules}
use Rattle.code_stack.specs.declared.steps.Fault.TheVariants as fault
use Rattle.code_leaps.proofs.PartLemmas.{leads_none}
use Rattle.code_run.proofs.QuestionLemmas.{check_of, passes_now, fails_now, ends_now, is_part, stops_unasked, answered}

-- by a test of the negation
pub denied : (b : Bool) → not b ≡ true → b ≡ false
denied true e = absurd (cc e)
denied false e = refl

pub affirmed : (b : Bool) → not b ≡ false → b ≡ true
affirmed true e = refl
affirmed false e = absurd (cc e)

-- the test for fuel
pub lacking : (c f : Bool) → true ≡ (c && not f) → (not c || f) ≡ false
lacking true false e = refl
lacking true true e = absurd (cc e)
lacking false f e = absurd (cc e)

pub having : (c f : Bool) → false ≡ (c && not f) → (not c || f) ≡ true
having true false e = absurd (cc e)
having true true e = refl
having false f e = refl

pub fuel_at : (program : ProgramParts) (rules : Rules) (h : HeldParts) (fuelled : Bool) →
    (not rules.consumes_fuel || int_lt (pos 0) h.fuel) ≡ fuelled → (go : Doing) (base : Machine) → IsRuled rules base →
    (turns : ℕ) (before : List Asking) (answers : List Answer) →
    on_fuel (at (ruled program rules) base h turns before answers) go
    ≡ cond fuelled (go (at (ruled program rules) base h turns before answers))
    (Over (Trapped trap.OutOfFuel) (at (ruled program rules) base h turns before answers))
fuel_at program rules h fuelled e go base b turns before answers =
    let w = at (ruled program rules) base h turns before answers in
    ap (λ c. cond (not c || int_lt (pos 0) h.fuel) (go w) (Over (Trapped trap.OutOfFuel) w)) b.fuel_is
    ∙ ap (λ b. cond b (go w) (Over (Trapped trap.OutOfFuel) w)) e

-- a new deadline past the next reading
abbrev pub renew_part : ℕ → Part
renew_part ticks w go = ask Over w Reading (renewed go ticks)

module _ {W : Type 0} (program : ProgramParts) (rules : Rules) (moves : W → Question → Answer → W → Type 0)
    (h : HeldParts) (t : W) (left : ℕ) where
  -- ---- a new deadline

  module _ (ticks : ℕ) where
    pub renew_stops : left ≡ 0 → Checks (ruled program rules) moves (renew_part ticks) h t left (check_of check_is.Limit 0) h t
    renew_stops none =
        stops_unasked (ruled program rules) moves (renew_part ticks) h t left Reading (λ go. renewed go ticks)
        (λ go base b turns before answers. refl) none

    module _ (some : left ≡ 0 → ⊥) (t' : W) where
      pub renew_fails : (why : EpochFailed) → moves t Reading (Read (Err why)) t' →
          Checks (ruled program rules) moves (renew_part ticks) h t left
          (check_of (check_is.Fails (fault.Refused refusal.EpochFault)) 1) h t'
      renew_fails why m =
          answered (ruled program rules) moves (renew_part ticks) h t left Reading (λ go. renewed go ticks)
          (λ go base b turns before answers. refl) (Read (Err why)) refl t' m some
          (λ w go. Over (Refused refusal.EpochFault) w) (λ go base b turns before answers. refl)
          (check_of (check_is.Fails (fault.Refused refusal.EpochFault)) 0) h t'
          (ends_now (ruled program rules) moves h t' (left - 1) (fault.Refused refusal.EpochFault)) 1 refl

      pub renew_passes : (reading : ℕ) → moves t Reading (Read (Ok reading)) t' → (h' : HeldParts) →
          h' ≡ record h { deadline = min (reading + ticks) (2 ^ 64 - 2) } →
          Checks (ruled program rules) moves (renew_part ticks) h t left (check_of check_is.Passes 1) h' t'
      renew_passes reading m h' e =
          let g = ruled program rules in
          let set : HeldParts = record h { deadline = min (reading + ticks) (2 ^ 64 - 2) } in
          let dated : Part = λ w go. go (record w { machine = set_deadline w.machine (deadline reading ticks) }) in
          answered g moves (renew_part ticks) h t left Reading (λ go. renewed go ticks)
          (λ go base b turns before answers. refl) (Read (Ok reading)) refl t' m some dated
          (λ go base b turns before answers. refl) (check_of check_is.Passes 0) h' t'
          (record {
            within = omega arith;
            heard = [];
            chain = refl;
            by = λ go. subst (λ (k : HeldParts). Leads g (λ w. dated w go) h 0 [] go k) (sym e)
                (record { by = (leads_none g go set).by });
          }) 1 refl

  -- ---- at or past the deadline

  -- in the stores of these rules
  behaving_at : (epochs : rules.reads_epochs ≡ true) (behaving : Bool) → rules.behaving ≡ behaving → (go : Doing)
      (base : Machine) → IsRuled rules base → (turns : ℕ) (before : List Asking) (answers : List Answer) →
      at_deadline (at (ruled program rules) base h turns before answers) go
      ≡ cond behaving (ask Over (at (ruled program rules) base h turns before answers) Behaving (behaved go))
      (Over (Trapped trap.Interrupt) (at (ruled program rules) base h turns before answers))
  behaving_at epochs behaving e go base b turns before answers =
      let w = at (ruled program rules) base h turns before answers in
      ap (λ b. cond b (ask Over w Behaving (behaved go)) (Over (Trapped trap.Interrupt) w)) (b.behaving_is epochs ∙ e)

  module _ (epochs : rules.reads_epochs ≡ true) where
    pub interrupts : rules.behaving ≡ false → Checks (ruled program rules) moves at_deadline h t left
        (check_of (check_is.Fails (fault.Trapped trap.Interrupt)) 0) h t
    interrupts e =
        fails_now (ruled program rules) moves at_deadline h t left (fault.Trapped trap.Interrupt)
        (behaving_at epochs false e)

    module _ (e : rules.behaving ≡ true) where
      pub deadline_stops : left ≡ 0 → Checks (ruled program rules) moves at_deadline h t left (check_of check_is.Limit 0)
          h t
      deadline_stops none =
          stops_unasked (ruled program rules) moves at_deadline h t left Behaving behaved (behaving_at epochs true e) none

      module _ (some : left ≡ 0 → ⊥) (t' : W) where
        pub behaviour_fails : (why : BehaviourFailed) → moves t Behaving (Behaved (Err why)) t' →
            Checks (ruled program rules) moves at_deadline h t left
            (check_of (check_is.Fails (fault.Refused refusal.EpochFault)) 1) h t'
        behaviour_fails why m =
            answered (ruled program rules) moves at_deadline h t left Behaving behaved (behaving_at epochs true e)
            (Behaved (Err why)) refl t' m some (λ w go. Over (Refused refusal.EpochFault) w)
            (λ go base b turns before answers. refl) (check_of (check_is.Fails (fault.Refused refusal.EpochFault)) 0) h t'
            (ends_now (ruled program rules) moves h t' (left - 1) (fault.Refused refusal.EpochFault)) 1 refl

        pub behaviour_interrupts : moves t Behaving (Behaved (Ok update.Interrupt)) t' →
            Checks (ruled program rules) moves at_deadline h t left
            (check_of (check_is.Fails (fault.Trapped trap.Interrupt)) 1) h t'
        behaviour_interrupts m =
            answered (ruled program rules) moves at_deadline h t left Behaving behaved (behaving_at epochs true e)
            (Behaved (Ok update.Interrupt)) refl t' m some (λ w go. Over (Trapped trap.Interrupt) w)
            (λ go base b turns before answers. refl) (check_of (check_is.Fails (fault.Trapped trap.Interrupt)) 0) h t'
            (ends_now (ruled program rules) moves h t' (left - 1) (fault.Trapped trap.Interrupt)) 1 refl

        pub behaviour_continues : (ticks : ℕ) → moves t Behaving (Behaved (Ok (update.Continue ticks))) t' →
            (c : Checked) (h' : HeldParts) (t2 : W) →
            Checks (ruled program rules) moves (renew_part ticks) h t' (left - 1) c h' t2 →
            Checks (ruled program rules) moves at_deadline h t left (check_of c.what (c.spent + 1)) h' t2
        behaviour_continues ticks m c h' t2 x =
            answered (ruled program rules) moves at_deadline h t left Behaving behaved (behaving_at epochs true e)
            (Behaved (Ok (update.Continue ticks))) refl t' m some (renew_part ticks)
            (λ go base b turns before answers. refl) c h' t2 x (c.spent + 1) (omega arith)

  -- ---- the epoch

  reading_at : (reads : Bool) → rules.reads_epochs ≡ reads → (go : Doing) (base : Machine) → IsRuled rules base →
      (turns : ℕ) (before : List Asking) (answers : List Answer) →
      on_epoch (at (ruled program rules) base h turns before answers) go
      ≡ cond reads (ask Over (at (ruled program rules) base h turns before answers) Reading (read go))
      (go (at (ruled program rules) base h turns before answers))
  reading_at reads e go base b turns before answers =
      let w = at (ruled program rules) base h turns before answers in
      ap (λ b. cond b (ask Over w Reading (read go)) (go w)) (b.epochs_are ∙ e)

  pub no_epochs : rules.reads_epochs ≡ false →
      Checks (ruled program rules) moves on_epoch h t left (check_of check_is.Passes 0) h t
  no_epochs e = passes_now (ruled program rules) moves on_epoch h t left (reading_at false e)

  module _ (e : rules.reads_epochs ≡ true) where
    pub epoch_stops : left ≡ 0 → Checks (ruled program rules) moves on_epoch h t left (check_of check_is.Limit 0) h t
    epoch_stops none =
        stops_unasked (ruled program rules) moves on_epoch h t left Reading read (reading_at true e) none

    module _ (some : left ≡ 0 → ⊥) (t' : W) where
      pub reading_fails : (why : EpochFailed) → moves t Reading (Read (Err why)) t' →
          Checks (ruled program rules) moves on_epoch h t left
          (check_of (check_is.Fails (fault.Refused refusal.EpochFault)) 1) h t'
      reading_fails why m =
          answered (ruled program rules) moves on_epoch h t left Reading read (reading_at true e)
          (Read (Err why)) refl t' m some (λ w go. Over (Refused refusal.EpochFault) w)
          (λ go base b turns before answers. refl) (check_of (check_is.Fails (fault.Refused refusal.EpochFault)) 0) h t'
          (ends_now (ruled program rules) moves h t' (left - 1) (fault.Refused refusal.EpochFault)) 1 refl

      module _ (reading : ℕ) (m : moves t Reading (Read (Ok reading)) t') where
        dated : (b : Bool) → nat_lt reading h.deadline ≡ b → (go : Doing) (base : Machine) → IsRuled rules base →
            (turns : ℕ) (before : List Asking) (answers : List Answer) →
            read go (Read (Ok reading)) (at (ruled program rules) base h turns before answers)
            ≡ cond b (go (at (ruled program rules) base h turns before answers))
            (at_deadline (at (ruled program rules) base h turns before answers) go)
        dated b en go base i turns before answers =
            let w = at (ruled program rules) base h turns before answers in
            ap (λ b. cond b (go w) (at_deadline w go)) en

        pub reading_before : nat_lt reading h.deadline ≡ true →
            Checks (ruled program rules) moves on_epoch h t left (check_of check_is.Passes 1) h t'
        reading_before en =
            answered (ruled program rules) moves on_epoch h t left Reading read (reading_at true e)
            (Read (Ok reading)) refl t' m some (λ w go. go w) (dated true en) (check_of check_is.Passes 0) h t'
            (passes_now (ruled program rules) moves (λ w go. go w) h t' (left - 1)
            (λ go base b turns before answers. refl)) 1 refl

        pub reading_past : nat_lt reading h.deadline ≡ false → (c : Checked) (h' : HeldParts) (t2 : W) →
            Checks (ruled program rules) moves at_deadline h t' (left - 1) c h' t2 →
            Checks (ruled program rules) moves on_epoch h t left (check_of c.what (c.spent + 1)) h' t2
        reading_past en c h' t2 x =
            answered (ruled program rules) moves on_epoch h t left Reading read (reading_at true e)
            (Read (Ok reading)) refl t' m some at_deadline (dated false en) c h' t2 x (c.spent + 1) (omega arith)

  -- ---- fuel

  pub out_of_fuel : true ≡ (rules.consumes_fuel && not (int_lt (pos 0) h.fuel)) →
      Checks (ruled program rules) moves check h t left (check_of (check_is.Fails (fault.Trapped trap.OutOfFuel)) 0) h t
  out_of_fuel e =
      fails_now (ruled program rules) moves check h t left (fault.Trapped trap.OutOfFuel)
      (λ go. fuel_at program rules h false (lacking rules.consumes_fuel (int_lt (pos 0) h.fuel) e) (λ v. on_epoch v go))

  pub fuelled_passes : false ≡ (rules.consumes_fuel && not (int_lt (pos 0) h.fuel)) → (c : Checked) (h' : HeldParts)
      (t' : W) → Checks (ruled program rules) moves on_epoch h t left c h' t' →
      Checks (ruled program rules) moves check h t left c h' t'
  fuelled_passes e c h' t' x =
      is_part (ruled program rules) moves check h t left on_epoch
      (λ go. fuel_at program rules h true (having rules.consumes_fuel (int_lt (pos 0) h.fuel) e) (λ v. on_epoch v go))
      c h' t' x
