-- What the calls on fuel and deadline leave.
use Rattle.std.proofs.Common.{◌≡◌, ℕ, pos, ◌-◌, ◌^◌, ◌≤◌, Bool, true, false, Option, Result, Ok, refl, subst, arith, le_refl}
use Rattle.wasm_meter.specs.Deadlines.{deadline_at}
use Rattle.wasm_meter.specs.Fuel.{fuel_left}
use Rattle.wasm_values.specs.declared.refusals.Refusal.{Refusal}
use Rattle.wasm_values.specs.declared.refusals.Refusal.TheVariants.{FuelNotConfigured, FuelInterval}
use Rattle.spec_machine.specs.Changes.{set_fuel, set_deadline}
use Rattle.spec_machine.specs.FuelCalls.{get_fuel, fill_fuel, is_interval, yield_interval}
use Rattle.spec_machine.specs.Machine.{Machine}
use Rattle.spec_machine.specs.Steps.{◌>>=◌, unless}
use Rattle.spec_machine.specs.WellFormed.{IsWellFormed}
use Rattle.law_store.specs.HostCalls.{MetersLeave}
use Rattle.law_store.specs.Later.{Extends, LeavesFlags}
use Rattle.law_store.specs.Laws.{FilledFuelIsTold, IntervalKeepsFuel}
use Rattle.law_store.proofs.RefusalLemmas.{given_is}
use Rattle.law_store.proofs.Settings.{extends_settings, keeps_settings}

-- a call that was not refused has passed its test
past : {A : Type 0} (why : Refusal) (b : Bool) (given : Result A Refusal) (after : A) →
    ◌≡◌ {A = Result A Refusal} (unless why b >>= (λ _. given)) (Ok after) → given ≡ Ok after
past why true given after e = e
past why false given after e = absurd cc

pub fill_fuel_is : (m after : Machine) (amount : ℕ) → fill_fuel m amount ≡ Ok after → set_fuel m (pos amount) ≡ after
fill_fuel_is m after amount e =
    let x : Machine = set_fuel m (pos amount) in
    given_is x after (past FuelNotConfigured m.engine.consumes_fuel (Ok x) after e)

pub yield_interval_is : (m after : Machine) (interval : Option ℕ) → yield_interval m interval ≡ Ok after →
    set_fuel m (pos (fuel_left m.fuel)) ≡ after
yield_interval_is m after interval e =
    let x : Machine = set_fuel m (pos (fuel_left m.fuel)) in
    given_is x after
    (past FuelInterval (is_interval interval) (Ok x) after
    (past FuelNotConfigured m.engine.consumes_fuel (unless FuelInterval (is_interval interval) >>= (λ _. Ok x)) after e))

-- what holds of stores with other fuel, which owe none, and with other deadlines
module _ (P : Machine → Type 0) (m : Machine) (fills : (n : ℕ) → P (set_fuel m (pos n)))
    (moves : (d : ℕ) → d ≤ 2 ^ 64 - 2 → P (set_deadline m d)) where
  by_changes : MetersLeave P m
  by_changes = record {
    fill_fuel = λ amount after e. subst P (fill_fuel_is m after amount e) (fills amount);
    yield_interval = λ interval after e. subst P (yield_interval_is m after interval e) (fills (fuel_left m.fuel));
    move_deadline = λ ticks reading. let most : deadline_at reading ticks ≤ 2 ^ 64 - 2 = omega arith in
        moves (deadline_at reading ticks) most;
  }

pub meters_extend : (m : Machine) → MetersLeave (Extends m) m
meters_extend m =
    by_changes (Extends m) m
    (λ n. extends_settings m (pos n) m.deadline m.counts m.limits m.is_limited m.is_hooked m.is_behaving)
    (λ d most. extends_settings m m.fuel d m.counts m.limits m.is_limited m.is_hooked m.is_behaving)

pub meters_keep_well_formed : (m : Machine) → IsWellFormed m → MetersLeave IsWellFormed m
meters_keep_well_formed m w =
    by_changes IsWellFormed m
    (λ n. keeps_settings m (pos n) m.deadline m.counts m.limits m.is_limited m.is_hooked m.is_behaving w w.deadline_is
    (omega arith))
    (λ d most. keeps_settings m m.fuel d m.counts m.limits m.is_limited m.is_hooked m.is_behaving w most w.debt_is)

pub meters_leave_flags : (m : Machine) → MetersLeave (LeavesFlags m) m
meters_leave_flags m =
    by_changes (LeavesFlags m) m
    (λ n. record {
      engine = refl;
      instances = refl;
      counts = refl;
      limits = refl;
      is_limited = refl;
      is_hooked = refl;
      is_behaving = refl;
      owed = omega arith;
    })
    (λ d most. record {
      engine = refl;
      instances = refl;
      counts = refl;
      limits = refl;
      is_limited = refl;
      is_hooked = refl;
      is_behaving = refl;
      owed = le_refl _;
    })

-- what a store tells of its fuel
told : {A B : Type 0} (why : Refusal) (b : Bool) (given : Result A Refusal) (after : A) (fuel : B) →
    ◌≡◌ {A = Result A Refusal} (unless why b >>= (λ _. given)) (Ok after) →
    ◌≡◌ {A = Result B Refusal} (unless why b >>= (λ _. Ok fuel)) (Ok fuel)
told why true given after fuel e = refl
told why false given after fuel e = absurd cc

pub filled_fuel_is_told : FilledFuelIsTold
filled_fuel_is_told m after amount e =
    let P : Machine → Type 0 = λ k. get_fuel k ≡ Ok amount in
    subst P (fill_fuel_is m after amount e)
    (told FuelNotConfigured m.engine.consumes_fuel (Ok (set_fuel m (pos amount))) after amount e)

pub interval_keeps_fuel : IntervalKeepsFuel
interval_keeps_fuel m after interval e =
    let P : Machine → Type 0 = λ k. get_fuel k ≡ get_fuel m in subst P (yield_interval_is m after interval e) refl
