-- The questions to a limiter. All of it is this project's own.
use Rattle.std.specs.Prelude.{ℕ, Option}

-- what is to grow
pub data Growing : Type 0 where
  Memory : Growing
  Table : Growing

-- a question to a limiter: what is to grow, its size, the size that is asked for, and its declared maximum, where it
-- has one; sizes of memories are bytes, those of tables are elements
pub record Growth : Type 0 where
  pub object : Growing
  pub current : ℕ
  pub desired : ℕ
  pub maximum : Option ℕ

abbrev pub memory_growth : ℕ → ℕ → Option ℕ → Growth
memory_growth current desired maximum =
    record { object = Growing.Memory; current = current; desired = desired; maximum = maximum }

abbrev pub table_growth : ℕ → ℕ → Option ℕ → Growth
table_growth current desired maximum =
    record { object = Growing.Table; current = current; desired = desired; maximum = maximum }
