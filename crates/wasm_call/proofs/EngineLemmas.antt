-- The ranges of an engine of a well-formed store.
use Rattle.std.proofs.Common.{ℕ, ◌+◌, ◌*◌, ◌≤◌, arith}
use Rattle.std.specs.Prelude.{nat_le, ◌&&◌}
use Rattle.std.proofs.lemmas.Bool.{leb-true}
use Rattle.wasm_types.specs.EqualityLaws.{both}
use Rattle.spec_machine.specs.Machine.{Machine, debt}
use Rattle.spec_machine.specs.WellFormed.{IsWellFormed}
use Rattle.store_state.specs.Tanks.{most_owed}
use Rattle.code_leaps.specs.Spending.{most_cost}

module _ (m : Machine) (well : IsWellFormed m) where
  pub engine_turns : m.engine.turns ≤ 1000000000
  engine_turns =
      let frames = m.engine.frames in
      let turns = m.engine.turns in
      leb-true turns 1000000000
      (both (nat_le 1 frames && nat_le frames 1024 && nat_le 1 turns) (nat_le turns 1000000000) well.engine_is).1

  -- what is owed, and what a run may charge, is in range
  pub fuel_in_range : (turns : ℕ) → turns ≤ 1000000000 → debt m.fuel + turns * most_cost ≤ most_owed
  fuel_in_range turns few = omega (arith, few, well.debt_is)
