-- The deadline is moved past a reading of the epoch: the reading is a turn, and the act is another.
use Rattle.std.proofs.Common.{◌≡◌, ℕ, zero, suc, ◌+◌, ◌-◌, ◌≤◌, List, [], ◌∷◌, ◌++◌, Some, refl, ap, sym, ◌∙◌, arith}
use Rattle.std.specs.Prelude.{Result, Ok, Err}
use Rattle.wasm_meter.specs.declared.faults.EpochFailed.{EpochFailed}
use Rattle.wasm_values.specs.declared.refusals.Refusal.TheVariants.{TurnLimit, EpochFault}
use Rattle.spec_machine.specs.Commands.{Row, ActAt}
use Rattle.spec_machine.specs.Machine.{Machine}
use Rattle.spec_machine.specs.declared.reply.Reply.{Reply}
use Rattle.spec_machine.specs.declared.reply.Reply.TheVariants.{Refused}
use Rattle.spec_execution.specs.Askings.{Reading, Answer, Read, Asking}
use Rattle.spec_execution.specs.Outcomes.{world}
use Rattle.wasm_store.specs.Stores.{StoreParts}
use Rattle.wasm_call.specs.Alone.{codeless}
use Rattle.wasm_call.specs.Outcomes.{AnsweredWithin, by_row, answer_of}
use Rattle.wasm_call.specs.Outside.{Growths, Readings, surrounded}

-- what is asked
abbrev reading_of : Result ℕ EpochFailed → Asking
reading_of answer = (Reading, Read answer)

module _ {T E : Type 0} (growths : Growths T) (readings : Readings E) (limit : ℕ) (after : ℕ → Machine) (reply : Reply) (old new : StoreParts T)
    (epochs epochs' : E) (answer : Result ℕ EpochFailed) (moved : readings epochs answer epochs')
    (keeps : new.host_data ≡ old.host_data) where
  abbrev row : Row
  row = ActAt after reply

  abbrev Answered : Reply → Type 0
  Answered says = AnsweredWithin (codeless growths readings) limit row (surrounded old tt epochs) says (surrounded new tt epochs')

  -- with this reply, and so many turns left, of those that there are
  answered : (says : Reply) (left : ℕ) → new.turns + left ≡ limit →
      ((before : List Asking) (rest : List Answer) →
      answer_of (by_row row (world old.machine limit before (Read answer ∷ rest)))
      ≡ Some (says, world new.machine left (before ++ reading_of answer ∷ []) rest)) → Answered says
  answered says left within ends = record {
    heard = reading_of answer ∷ [];
    left = left;
    within = within;
    chained = (
      record { host_data = old.host_data; host = tt; epochs = epochs' },
      (epochs', moved, refl),
      ap (λ (t : T). record { host_data = t; host = tt; epochs = epochs' }) keeps,
    );
    ends = λ before rest. ends before rest;
  }

module _ {T E : Type 0} (growths : Growths T) (readings : Readings E) (limit : ℕ) (after : ℕ → Machine) (reply : Reply) (old new : StoreParts T)
    (epochs epochs' : E) (keeps : new.host_data ≡ old.host_data) (some : 1 ≤ limit) where
  abbrev at_row : Row
  at_row = ActAt after reply

  one_more : (turns : ℕ) → 1 ≤ turns → turns ≡ suc (turns - 1)
  one_more turns h = omega (arith, h)

  two_more : (turns : ℕ) → 1 ≤ turns → (turns ≡ 1 → ⊥) → turns ≡ suc (suc (turns - 2))
  two_more turns h k = by_turns turns h k where
    by_turns : (n : ℕ) → 1 ≤ n → (n ≡ 1 → ⊥) → n ≡ suc (suc (n - 2))
    by_turns zero h k = absurd (omega (arith, h))
    by_turns (suc zero) h k = absurd (k refl)
    by_turns (suc (suc n)) h k = omega arith

  -- there is no reading
  pub reading_failed : (fault : EpochFailed) → readings epochs (Err fault) epochs' → new.turns ≡ 1 →
      new.machine ≡ old.machine →
      AnsweredWithin (codeless growths readings) limit at_row (surrounded old tt epochs) (Refused EpochFault) (surrounded new tt epochs')
  reading_failed fault moved one same =
      let left : ℕ = limit - 1 in
      answered growths readings limit after reply old new epochs epochs' (Err fault) moved keeps (Refused EpochFault) left
      (omega (arith, one, some)) (λ before rest.
      ap (λ (k : ℕ). answer_of (by_row at_row (world old.machine k before (Read (Err fault) ∷ rest))))
      (one_more limit some)
      ∙ ap (λ (m : Machine). Some (Refused EpochFault, world m left (before ++ reading_of (Err fault) ∷ []) rest))
      (sym same))

  -- no turn is left for the act
  pub reading_limited : (reading : ℕ) → readings epochs (Ok reading) epochs' → limit ≡ 1 →
      new.turns ≡ 1 → new.machine ≡ old.machine →
      AnsweredWithin (codeless growths readings) limit at_row (surrounded old tt epochs) (Refused TurnLimit) (surrounded new tt epochs')
  reading_limited reading moved all one same =
      answered growths readings limit after reply old new epochs epochs' (Ok reading) moved keeps (Refused TurnLimit) 0
      (omega (arith, one, all)) (λ before rest.
      ap (λ (k : ℕ). answer_of (by_row at_row (world old.machine k before (Read (Ok reading) ∷ rest)))) all
      ∙ ap (λ (m : Machine). Some (Refused TurnLimit, world m 0 (before ++ reading_of (Ok reading) ∷ []) rest))
      (sym same))

  pub reading_dated : (reading : ℕ) → readings epochs (Ok reading) epochs' → (limit ≡ 1 → ⊥) →
      new.turns ≡ 2 → new.machine ≡ after reading →
      AnsweredWithin (codeless growths readings) limit at_row (surrounded old tt epochs) reply (surrounded new tt epochs')
  reading_dated reading moved more two same =
      let left : ℕ = limit - 2 in
      let is : limit ≡ suc (suc left) = two_more limit some more in
      answered growths readings limit after reply old new epochs epochs' (Ok reading) moved keeps reply left
      (omega (arith, two, is)) (λ before rest.
      ap (λ (k : ℕ). answer_of (by_row at_row (world old.machine k before (Read (Ok reading) ∷ rest)))) is
      ∙ ap (λ (m : Machine). Some (reply, world m left (before ++ reading_of (Ok reading) ∷ []) rest)) (sym same))
