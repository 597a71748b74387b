-- How many instances, memories and tables a store makes by instantiation, and the most of each. This project's own,
-- as the wasmtime crate has it.
use Rattle.std.specs.Coded.{Coded, code_by, coded×, coded_ℕ}
use Rattle.std.specs.Prelude.{ℕ, suc, ◌+◌, nat_le, if◌then◌else◌, ⊤, Result, Ok, Err, refl}
use Rattle.wasm_types.specs.declared.plain.Resource.{Resource}
use Rattle.wasm_types.specs.declared.plain.Resource.TheVariants.{Instance, Memory, Table}

-- a number of instances, of memories and of tables
pub record Numbers : Type 0 where
  pub instances : ℕ
  pub memories : ℕ
  pub tables : ℕ

abbrev pub numbers : ℕ → ℕ → ℕ → Numbers
numbers instances memories tables = record { instances = instances; memories = memories; tables = tables }

abbrev pub numbers_code : Coded Numbers
numbers_code =
    code_by (ℕ × (ℕ × ℕ)) (coded× coded_ℕ (coded× coded_ℕ coded_ℕ)) (λ n. (n.instances, (n.memories, n.tables)))
    (λ p. numbers p.0 p.1.0 p.1.1) (λ _. refl)

-- what was made, and the most of it
pub record CountParts : Type 0 where
  pub made : Numbers
  pub limits : Numbers

abbrev pub count_parts : Numbers → Numbers → CountParts
count_parts made limits = record { made = made; limits = limits }

abbrev pub counts_code : Coded CountParts
counts_code =
    code_by (Numbers × Numbers) (coded× numbers_code numbers_code) (λ c. (c.made, c.limits))
    (λ p. count_parts p.0 p.1) (λ _. refl)

-- more of each, one kind after another; the first kind of which there would be more than the limit, and then neither
-- that one nor those behind it are raised
abbrev pub bump_tables : ℕ → CountParts → Result ⊤ Resource × CountParts
bump_tables n c =
    if nat_le (c.made.tables + n) c.limits.tables
    then (Ok tt, record c { made = record c.made { tables = c.made.tables + n } })
    else (Err Table, c)

abbrev pub bump_memories : ℕ → CountParts → (CountParts → Result ⊤ Resource × CountParts) →
    Result ⊤ Resource × CountParts
bump_memories n c go =
    if nat_le (c.made.memories + n) c.limits.memories
    then go (record c { made = record c.made { memories = c.made.memories + n } })
    else (Err Memory, c)

abbrev pub bump_instances : CountParts → (CountParts → Result ⊤ Resource × CountParts) → Result ⊤ Resource × CountParts
bump_instances c go =
    if nat_le (suc c.made.instances) c.limits.instances
    then go (record c { made = record c.made { instances = suc c.made.instances } })
    else (Err Instance, c)

-- an instance, so many memories and so many tables more
abbrev pub bumped : ℕ → ℕ → CountParts → Result ⊤ Resource × CountParts
bumped memories tables c = bump_instances c (λ a. bump_memories memories a (λ b. bump_tables tables b))
