-- Fuel, deadline, counts, limits and flags play no part in what is well formed, but for the limits of deadline and debt.
use Rattle.std.proofs.Common.{ℕ, ℤ, ◌-◌, ◌^◌, ◌≤◌, Bool, refl}
use Rattle.spec_machine.specs.Machine.{Machine, Numbers, debt, most_debt}
use Rattle.spec_machine.specs.WellFormed.{IsWellFormed}
use Rattle.law_store.specs.Later.{Extends}
use Rattle.law_store.proofs.LaterStoreLemmas.{extends_own}
use Rattle.law_store.proofs.WellFormedLemmas.{kept}

module _ (m : Machine) (fuel : ℤ) (deadline : ℕ) (counts limits : Numbers) (limited hooked behaving : Bool) where
  -- the store with other settings
  abbrev pub with_settings : Machine
  with_settings =
      record m {
        fuel = fuel;
        deadline = deadline;
        counts = counts;
        limits = limits;
        is_limited = limited;
        is_hooked =
            hooked;
        is_behaving = behaving;
      }

  pub extends_settings : Extends m with_settings
  extends_settings = let e : Extends m m = extends_own m in
      record {
        id = refl;
        engine = refl;
        memories = e.memories;
        tables = e.tables;
        globals = e.globals;
        tags =
            e.tags;
        functions = e.functions;
        instances = e.instances;
      }

  pub keeps_settings : IsWellFormed m → deadline ≤ 2 ^ 64 - 2 → debt fuel ≤ most_debt →
      IsWellFormed with_settings
  keeps_settings w d owed = kept m with_settings w extends_settings w.memories_are w.tables_are w.globals_are w.tags_are
      w.functions_are w.instances_are d owed
