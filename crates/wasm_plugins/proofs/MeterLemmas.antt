-- Guests of a store that is given other fuel, or another deadline.
use Rattle.std.proofs.Common.{◌≡◌, ℕ, ℤ, pos, List, [], Some, slice_get, Result, Ok, Err, refl, sym, ◌∙◌, subst}
use Rattle.std.specs.Prelude.{⊤}
use Rattle.std.proofs.lemmas.Bool.{false≢true}
use Rattle.wasm_meter.specs.Deadlines.{deadline_at}
use Rattle.wasm_meter.specs.declared.faults.EpochFailed.{EpochFailed}
use Rattle.wasm_values.specs.declared.refusals.Refusal.{Refusal}
use Rattle.spec_machine.specs.Changes.{set_fuel, set_deadline}
use Rattle.spec_machine.specs.FuelCalls.{fill_fuel}
use Rattle.spec_machine.specs.Machine.{Machine}
use Rattle.spec_machine.specs.WellFormed.{IsWellFormed}
use Rattle.spec_reach.specs.Nodes.{instance}
use Rattle.spec_reach.specs.Outside.{SameOutside}
use Rattle.store_state.specs.Calls.{Changes}
use Rattle.law_store.specs.Later.{Extends}
use Rattle.law_store.proofs.LaterStoreLemmas.{extends_own}
use Rattle.law_store.proofs.Meters.{fill_fuel_is}
use Rattle.law_plugins.specs.Meeting.{GuestsAreApart, KeepsGuest}
use Rattle.law_plugins.proofs.KeptLemmas.{keeps_guest, same_private, stays_there}
use Rattle.wasm_store.specs.Meters.{MovesTo, MovesDeadline}

module _ (m : Machine) (fuel : ℤ) (deadline : ℕ) (well : IsWellFormed m) (guests : List ℕ)
    (are : GuestsAreApart m guests) where
  abbrev after : Machine
  after = set_deadline (set_fuel m fuel) deadline

  -- nothing but the fuel and the deadline changes
  outside : SameOutside [] m after
  outside = record {
    memories = λ n x e f. f;
    tables = λ n x e f. f;
    globals = λ n x e f. f;
    segments = λ n i e f. record { now = i; found = f; elements = refl; datas = refl };
  }

  later : Extends m after
  later =
      let e : Extends m m = extends_own m in
      record {
        id = refl;
        engine = refl;
        memories = e.memories;
        tables = e.tables;
        globals = e.globals;
        tags = e.tags;
        functions = e.functions;
        instances = e.instances;
      }

  kept : (i g : ℕ) → slice_get guests i ≡ Some g → KeepsGuest m after g
  kept i g p =
      keeps_guest m after [] outside later well g (are.there i g p) (λ x q e r. false≢true e)

  metered_apart : GuestsAreApart after guests
  metered_apart = record {
    there = λ i g p. stays_there m after [] outside later (instance g) (are.there i g p);
    apart = λ i j g h l p q x r s t.
        let own = sym ((kept i g p).reaches x) ∙ s in
        are.apart i j g h l p q x
        (sym (same_private m after [] outside later x ((kept i g p).objects x own)) ∙ r) own
        (sym ((kept j h q).reaches x) ∙ t);
  }

pub fuelled_apart : (m new : Machine) (amount : ℕ) (answer : Result ⊤ Refusal) → IsWellFormed m → (guests : List ℕ) →
    GuestsAreApart m guests → Changes (fill_fuel m amount) m answer new → GuestsAreApart new guests
fuelled_apart m new amount (Ok done) well guests are e =
    subst (λ (n : Machine). GuestsAreApart n guests) (fill_fuel_is m new amount e)
    (metered_apart m (pos amount) m.deadline well guests are)
fuelled_apart m new amount (Err why) well guests are e =
    subst (λ (n : Machine). GuestsAreApart n guests) (sym e.1) are

moved_apart : (m new : Machine) (ticks : ℕ) (answer : Result ℕ EpochFailed) (result : Result ⊤ Refusal) →
    IsWellFormed m → (guests : List ℕ) → GuestsAreApart m guests → MovesTo ticks answer m result new →
    GuestsAreApart new guests
moved_apart m new ticks (Ok reading) result well guests are e =
    subst (λ (n : Machine). GuestsAreApart n guests) (sym e.1)
    (metered_apart m m.fuel (deadline_at reading ticks) well guests are)
moved_apart m new ticks (Err fault) result well guests are e =
    subst (λ (n : Machine). GuestsAreApart n guests) (sym e.1) are

pub deadline_apart : {E : Type 0} (readings : E → Result ℕ EpochFailed → E → Type 0) (epochs moved : E)
    (m new : Machine) (ticks : ℕ) (result : Result ⊤ Refusal) → IsWellFormed m → (guests : List ℕ) →
    GuestsAreApart m guests → MovesDeadline readings ticks epochs moved m result new → GuestsAreApart new guests
deadline_apart readings epochs moved m new ticks result well guests are h =
    moved_apart m new ticks h.0 result well guests are h.2
