-- What is done with the outcome behind a check, where an early end stays one.
use Rattle.std.proofs.Common.{◌≡◌, ℕ, zero, suc, List, [], ◌∷◌, refl, Bool, true, false}
use Rattle.std.specs.Prelude.{cond, nat_lt, Ok, Err}
use Rattle.wasm_meter.specs.declared.deadline.UpdateDeadline.TheVariants as update
use Rattle.wasm_values.specs.declared.refusals.Refusal.TheVariants as refusal
use Rattle.wasm_values.specs.declared.refusals.Trap.TheVariants as trap
use Rattle.spec_machine.specs.Changes.{set_deadline}
use Rattle.spec_execution.specs.Askings.{Question, Reading, Behaving, Answer, Read, Behaved, is_answer}
use Rattle.spec_execution.specs.Checks.{has_fuel, deadline, renewed, behaved, at_deadline, read, on_epoch, check}
use Rattle.spec_execution.specs.Outcomes.{World, Outcome, Over, End, Trapped, Refused, Stopped, Waiting, Stuck, on_turn, hear, ask}
use Rattle.code_leaps.specs.Leading.{Doing}

module _ (F : Outcome → Outcome) (strict : (e : End) (w : World) → F (Over e w) ≡ Over e w) where
  either_through : (b : Bool) (x y x' y' : Outcome) → F x ≡ x' → F y ≡ y' → F (cond b x y) ≡ cond b x' y'
  either_through true x y x' y' h j = h
  either_through false x y x' y' h j = j

  hear_through : (w : World) (q : Question) (k k' : Answer → Doing) →
      ((a : Answer) (v : World) → F (k a v) ≡ k' a v) → (answers : List Answer) →
      F (hear Over w q k answers) ≡ hear Over w q k' answers
  hear_through w q k k' h [] = strict (Waiting q) w
  hear_through w q k k' h (a ∷ answers) =
      either_through (is_answer q a) _ _ _ _ (h a _) (strict (Waiting q) w)

  turn_through : (w : World) (go go' : Doing) → ((v : World) → F (go v) ≡ go' v) → (turns : ℕ) →
      F (on_turn Over w go turns) ≡ on_turn Over w go' turns
  turn_through w go go' h zero = strict Stopped w
  turn_through w go go' h (suc turns) = h (record w { turns = turns })

  ask_through : (w : World) (q : Question) (k k' : Answer → Doing) →
      ((a : Answer) (v : World) → F (k a v) ≡ k' a v) → F (ask Over w q k) ≡ ask Over w q k'
  ask_through w q k k' h =
      turn_through w (λ v. hear Over v q k v.answers) (λ v. hear Over v q k' v.answers)
      (λ v. hear_through v q k k' h v.answers) w.turns

  module _ (go go' : Doing) (h : (v : World) → F (go v) ≡ go' v) where
    renewed_through : (ticks : ℕ) (a : Answer) (w : World) → F (renewed go ticks a w) ≡ renewed go' ticks a w
    renewed_through ticks (Read (Ok reading)) w =
        h (record w { machine = set_deadline w.machine (deadline reading ticks) })
    renewed_through ticks (Read (Err fault)) w = strict (Refused refusal.EpochFault) w
    renewed_through ticks a w = strict Stuck w

    behaved_through : (a : Answer) (w : World) → F (behaved go a w) ≡ behaved go' a w
    behaved_through (Behaved (Ok update.Interrupt)) w = strict (Trapped trap.Interrupt) w
    behaved_through (Behaved (Ok (update.Continue ticks))) w =
        ask_through w Reading (renewed go ticks) (renewed go' ticks) (renewed_through ticks)
    behaved_through (Behaved (Err fault)) w = strict (Refused refusal.EpochFault) w
    behaved_through a w = strict Stuck w

    at_deadline_through : (w : World) → F (at_deadline w go) ≡ at_deadline w go'
    at_deadline_through w =
        either_through w.machine.is_behaving _ _ _ _
        (ask_through w Behaving (behaved go) (behaved go') behaved_through) (strict (Trapped trap.Interrupt) w)

    read_through : (a : Answer) (w : World) → F (read go a w) ≡ read go' a w
    read_through (Read (Ok reading)) w =
        either_through (nat_lt reading w.machine.deadline) _ _ _ _ (h w) (at_deadline_through w)
    read_through (Read (Err fault)) w = strict (Refused refusal.EpochFault) w
    read_through a w = strict Stuck w

    on_epoch_through : (w : World) → F (on_epoch w go) ≡ on_epoch w go'
    on_epoch_through w =
        either_through w.machine.engine.reads_epochs _ _ _ _
        (ask_through w Reading (read go) (read go') read_through) (h w)

    pub check_through : (w : World) → F (check w go) ≡ check w go'
    check_through w =
        either_through (has_fuel w.machine) _ _ _ _ (on_epoch_through w) (strict (Trapped trap.OutOfFuel) w)

-- what is done behind a check, by what is done in each world
pub check_alike : (go go' : Doing) → ((v : World) → go v ≡ go' v) → (w : World) → check w go ≡ check w go'
check_alike go go' h w = check_through (λ o. o) (λ e v. refl) go go' h w
