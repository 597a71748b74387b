-- The changes of a store, each named once: those that a host's calls, instructions and instantiation make are these.
-- WebAssembly core specification, "Execution, runtime structure, store"; fuel, deadline and counts are this project's own,
-- as the wasmtime crate has them.
use Rattle.std.specs.Prelude.{ℕ, suc, ◌+◌, ℤ, pos, ◌-ℤ◌, List, [], ◌∷◌, ◌++◌, set, if◌then◌else◌}
use Rattle.wasm_types.specs.Memories.{Memory}
use Rattle.wasm_types.specs.Signatures.{Signature}
use Rattle.wasm_objects.specs.Globals.{Global}
use Rattle.wasm_objects.specs.Tables.{Table}
use Rattle.spec_machine.specs.Machine.{Machine, Function, InstanceParts}

-- ---- one object becomes another, by its number

abbrev pub set_memory : Machine → ℕ → Memory → Machine
set_memory m n x = record m { memories = set m.memories n x }

abbrev pub set_table : Machine → ℕ → Table → Machine
set_table m n x = record m { tables = set m.tables n x }

abbrev pub set_global : Machine → ℕ → Global → Machine
set_global m n x = record m { globals = set m.globals n x }

abbrev pub set_instance : Machine → ℕ → InstanceParts → Machine
set_instance m n i = record m { instances = set m.instances n i }

-- a segment of an instance becomes empty
abbrev pub drop_element : Machine → ℕ → InstanceParts → ℕ → Machine
drop_element m n i k = set_instance m n (record i { elements = set i.elements k [] })

abbrev pub drop_data : Machine → ℕ → InstanceParts → ℕ → Machine
drop_data m n i k = set_instance m n (record i { datas = set i.datas k [] })

-- ---- new objects at the end

abbrev pub append_memories : Machine → List Memory → Machine
append_memories m xs = record m { memories = m.memories ++ xs }

abbrev pub append_tables : Machine → List Table → Machine
append_tables m xs = record m { tables = m.tables ++ xs }

abbrev pub append_globals : Machine → List Global → Machine
append_globals m xs = record m { globals = m.globals ++ xs }

abbrev pub append_tags : Machine → List Signature → Machine
append_tags m tys = record m { tags = m.tags ++ tys }

abbrev pub append_functions : Machine → List Function → Machine
append_functions m fs = record m { functions = m.functions ++ fs }

abbrev pub append_instance : Machine → InstanceParts → Machine
append_instance m i = record m { instances = m.instances ++ i ∷ [] }

-- ---- fuel, deadline and counts

abbrev pub set_fuel : Machine → ℤ → Machine
set_fuel m fuel = record m { fuel = fuel }

-- so much fuel is consumed, where the engine consumes fuel
abbrev pub charge : Machine → ℕ → Machine
charge m amount = if m.engine.consumes_fuel then set_fuel m (m.fuel -ℤ pos amount) else m

abbrev pub set_deadline : Machine → ℕ → Machine
set_deadline m deadline = record m { deadline = deadline }

-- one instance more, so many memories and tables more were made by instantiation
abbrev pub raise_instances : Machine → Machine
raise_instances m = record m { counts = record m.counts { instances = suc m.counts.instances } }

abbrev pub raise_memories : Machine → ℕ → Machine
raise_memories m n = record m { counts = record m.counts { memories = m.counts.memories + n } }

abbrev pub raise_tables : Machine → ℕ → Machine
raise_tables m n = record m { counts = record m.counts { tables = m.counts.tables + n } }
