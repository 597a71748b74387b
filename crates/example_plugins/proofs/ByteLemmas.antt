-- Guests that keep what they reach keep their bytes, fuel is no part of that, and what was kept twice was kept.
use Rattle.std.proofs.Common.{◌≡◌, ℕ, ℤ, List, Bool, true, false, Option, slice_get, Some, refl, sym, ap, ◌∙◌, subst, pos}
use Rattle.std.specs.Prelude.{⊤, Result, Ok, Err, option_map}
use Rattle.wasm_types.specs.Memories.{Memory}
use Rattle.wasm_values.specs.declared.refusals.Refusal.{Refusal}
use Rattle.wasm_values.specs.declared.refusals.Refusal.TheVariants as refusal
use Rattle.spec_machine.specs.Changes.{set_fuel}
use Rattle.spec_machine.specs.FuelCalls.{fill_fuel}
use Rattle.spec_machine.specs.Machine.{Machine}
use Rattle.spec_machine.specs.Steps.{◌>>=◌, unless}
use Rattle.spec_reach.specs.Nodes.{memory, has}
use Rattle.store_state.specs.Calls.{Changes}
use Rattle.law_plugins.specs.Meeting.{reach_of, KeepsGuest}
use Rattle.wasm_plugins.specs.Guests.{PluginsParts}
use Rattle.example_plugins.specs.Bytes.{KeepsBytes, OthersKeep}

pub keeps_bytes : (m after : Machine) (guest : ℕ) → KeepsGuest m after guest → KeepsBytes m after guest
keeps_bytes m after guest k = record {
  reaches = λ n. k.reaches (memory n);
  bytes = λ n h. ap (option_map (λ (x : Memory). x.bytes)) (k.objects (memory n) h);
}

keeps_on : (a b c : Machine) (guest : ℕ) → KeepsBytes a b guest → KeepsBytes b c guest → KeepsBytes a c guest
keeps_on a b c guest p q = record {
  reaches = λ n. q.reaches n ∙ p.reaches n;
  bytes = λ n h. q.bytes n (p.reaches n ∙ h) ∙ p.bytes n h;
}

fuelled : (m : Machine) (fuel : ℤ) (guest : ℕ) → KeepsBytes m (set_fuel m fuel) guest
fuelled m fuel guest = record { reaches = λ n. refl; bytes = λ n h. refl }

-- however much there was, and where the engine consumes none
fuel_keeps :
    (m after : Machine) (fuel : ℕ) (guest : ℕ) (r : Result ⊤ Refusal) → Changes (fill_fuel m fuel) m r after
    → KeepsBytes m after guest
fuel_keeps m after fuel guest (Ok done) c = by m.engine.consumes_fuel c where
  by : (b : Bool) → (unless refusal.FuelNotConfigured b >>= (λ _. Ok (set_fuel m (pos fuel)))) ≡ Ok after →
      KeepsBytes m after guest
  by true e =
      let is : set_fuel m (pos fuel) ≡ after = cc in
      subst (λ (k : Machine). KeepsBytes m k guest) is (fuelled m (pos fuel) guest)
  by false e = cc
fuel_keeps m after fuel guest (Err why) c =
    subst (λ (k : Machine). KeepsBytes m k guest) (sym c.1) (record { reaches = λ n. refl; bytes = λ n h. refl })

module _ {T : Type 0} where
  pub others_on :
      (a b c : PluginsParts T) (own : ℕ) → OthersKeep a b own → OthersKeep b c own → OthersKeep a c own
  others_on a b c own p q = record {
    guests = q.guests ∙ p.guests;
    bytes = λ i g n e.
        keeps_on a.store.machine b.store.machine c.store.machine g (p.bytes i g n e)
        (q.bytes i g n (ap (λ (l : List ℕ). slice_get l i) p.guests ∙ e));
  }

  -- fuel is filled, whoever runs then
  pub after_fuel :
      (a b : PluginsParts T) (own fuel : ℕ) (r : Result ⊤ Refusal)
      → Changes (fill_fuel a.store.machine fuel) a.store.machine r b.store.machine → b.guests ≡ a.guests
      → OthersKeep a b own
  after_fuel a b own fuel r c e = record {
    guests = e;
    bytes = λ i g n f. fuel_keeps a.store.machine b.store.machine fuel g r c;
  }

  -- and one of them runs
  pub after_call :
      (a b : PluginsParts T) (own : ℕ) → b.guests ≡ a.guests
      → ((i g : ℕ) → (i ≡ own → ⊥) → slice_get a.guests i ≡ Some g → KeepsGuest a.store.machine b.store.machine g)
      → OthersKeep a b own
  after_call a b own e h = record {
    guests = e;
    bytes = λ i g n f. keeps_bytes a.store.machine b.store.machine g (h i g n f);
  }
