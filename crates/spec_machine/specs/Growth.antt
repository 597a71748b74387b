-- Growth: when a memory or a table may become larger. A creation is growth from nothing by the minimum.
-- WebAssembly core specification, "Execution, modules, growing tables" and "growing memories"; the order of the tests, the
-- question to the limiter and the range of indices of tables are this project's own.
use Rattle.std.specs.Prelude.{ℕ, ◌+◌, ◌-◌, ◌*◌, ◌^◌, ◌/◌, min, Bool, true, false, length, nat_eq, nat_lt, if◌then◌else◌, option_map, Result, Ok, Err}
use Rattle.wasm_types.specs.Memories.{Memory}
use Rattle.wasm_types.specs.MemoryTypes.{MemoryParts, page_size, within_maximum}
use Rattle.wasm_types.specs.TableTypes.{TableParts}
use Rattle.wasm_meter.specs.Growths.{Growth, memory_growth, table_growth}
use Rattle.wasm_meter.specs.declared.faults.LimiterFailed.{LimiterFailed}
use Rattle.spec_machine.specs.Machine.{Machine}

-- the most bytes of a memory: 2^32, and 2^32 - 1 pages; the most elements of a table
abbrev pub memory_range : MemoryParts → ℕ
memory_range ty = min (2 ^ 32) ((2 ^ 32 - 1) * page_size ty)

abbrev pub table_range : ℕ
table_range = 2 ^ 32 - 1

-- a memory of so many pages that is to have more, in bytes; a table, in elements
abbrev pub memory_growing : MemoryParts → ℕ → ℕ → Growth
memory_growing ty pages delta =
    memory_growth (pages * page_size ty) ((pages + delta) * page_size ty) (option_map (λ most. most * page_size ty) ty.maximum)

abbrev pub table_growing : TableParts → ℕ → ℕ → Growth
table_growing ty elements delta = table_growth elements (elements + delta) ty.maximum

-- what the rule says before the limiter is asked
pub data Rule : Type 0 where
  Grows : Rule
  Fails : Rule
  Asks : Rule

-- what stands after it: the growth is granted, it fails, or the limiter failed
pub data Decision : Type 0 where
  Granted : Decision
  Failed : Decision
  Faulted : Decision

-- the declared maximum is kept
abbrev pub by_maximum : Growth → Decision
by_maximum g = if within_maximum g.desired g.maximum then Granted else Failed

abbrev pub rule_of : Decision → Rule
rule_of Granted = Grows
rule_of _ = Fails

-- nothing more is always granted; past the range of indices it fails; then a limiter is asked, where there is one; past
-- the declared maximum it fails
abbrev pub growth_rule : Bool → ℕ → Growth → Rule
growth_rule limited range g =
    if nat_eq g.current g.desired then Grows
    else if nat_lt range g.desired then Fails
    else if limited then Asks
    else rule_of (by_maximum g)

-- by the limiter's answer
abbrev pub answered_growth : Growth → Result Bool LimiterFailed → Decision
answered_growth g (Ok true) = by_maximum g
answered_growth g (Ok false) = Failed
answered_growth g (Err fault) = Faulted

-- a growth that is to be decided: its range of indices, what is asked, the store where it is granted, and what is then
-- answered
pub record Plan (A : Type 0) : Type 0 where
  pub range : ℕ
  pub growth : Growth
  pub after : Machine
  pub gives : A

abbrev pub plan : {A : Type 0} → ℕ → Growth → Machine → A → Plan A
plan range growth after gives = record { range = range; growth = growth; after = after; gives = gives }

abbrev pub plan_rule : {A : Type 0} → Machine → Plan A → Rule
plan_rule m p = growth_rule m.is_limited p.range p.growth

-- the pages of a memory
abbrev pub pages : Memory → ℕ
pages m = length m.bytes / page_size m.ty
