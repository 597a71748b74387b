-- Instantiation of a module over imports.
-- WebAssembly core specification, "Execution, modules": external typing, instantiation; the order of the checks, the
-- counts and the questions are this project's own
use Rattle.std.specs.Prelude.{ℕ, suc, ◌+◌, Bool, false, List, [], ◌∷◌, length, ⊤, nat_eq, nat_le, if◌then◌else◌, slice_get, Option, Some, None, Result, Ok, Err}
use Rattle.std.specs.List.{list_all}
use Rattle.wasm_types.specs.ExternTypes.{import_matches}
use Rattle.wasm_types.specs.MemoryTypes.{MemoryParts}
use Rattle.wasm_types.specs.TableTypes.{TableParts}
use Rattle.wasm_types.specs.declared.extern_type.ExternType.{ExternType}
use Rattle.wasm_types.specs.declared.plain.Resource.{Resource}
use Rattle.wasm_types.specs.declared.plain.Resource.TheVariants as resource
use Rattle.wasm_syntax.specs.declared.declarations.ImportDecl.{ImportDecl}
use Rattle.wasm_syntax.specs.declared.declarations.ModuleDecl.{ModuleDecl}
use Rattle.wasm_syntax.specs.declared.declarations.TableDecl.{TableDecl}
use Rattle.wasm_values.specs.Handles.{table_index, memory_index}
use Rattle.wasm_values.specs.declared.externals.Extern.{Extern}
use Rattle.wasm_values.specs.declared.externals.Extern.TheVariants as x
use Rattle.wasm_values.specs.declared.refusals.Refusal.{Refusal}
use Rattle.wasm_values.specs.declared.refusals.Refusal.TheVariants as refusal
use Rattle.wasm_objects.specs.Tables.{Table}
use Rattle.spec_machine.specs.Changes.{raise_instances, raise_memories, raise_tables}
use Rattle.spec_machine.specs.Growth.{Decision, Granted, Failed, Faulted, Plan, plan, memory_range, table_range, memory_growing, table_growing, pages}
use Rattle.spec_machine.specs.Machine.{Machine}
use Rattle.spec_machine.specs.Steps.{◌>>=◌, unless}
use Rattle.spec_machine.specs.ValueCalls.{extern_ty}
use Rattle.spec_machine.specs.Values.{owns_extern}
use Rattle.spec_execution.specs.Allocation.{function_numbers}
use Rattle.spec_execution.specs.Checks.{decide}
use Rattle.spec_execution.specs.Entering.{Exec, entry}
use Rattle.spec_execution.specs.Operands as on
use Rattle.spec_execution.specs.Outcomes.{World, state, Outcome, Values, Over, Trapped, Refused, Stuck, turn}
use Rattle.spec_execution.specs.Segments.{Taken, Done, OutOfRange, StuckSegment, make}

-- ---- the checks

-- the present size of a memory in pages, of a table in elements; that of another object is not looked at
abbrev pub size_of : Machine → Extern → ℕ
size_of m (x.Memory h) = on.found 0 (slice_get m.memories (memory_index h)) pages
size_of m (x.Table h) = on.found 0 (slice_get m.tables (table_index h)) (λ (t : Table). length t.elements)
size_of m _ = 0

-- whether an object may be given for an import
abbrev pub is_given_as : ExternType → ℕ → Result ExternType Refusal → Bool
is_given_as declared size (Ok actual) = import_matches declared actual size
is_given_as declared size (Err why) = false

abbrev pub is_given : Machine → ExternType → Extern → Bool
is_given m declared given = is_given_as declared (size_of m given) (extern_ty m given)

-- the place of the first import that does not match, from this place on
abbrev pub first_unmatched_import : Machine → ℕ → List ImportDecl → List Extern → Option ℕ
first_unmatched_import m n (declared ∷ more) (given ∷ others) =
    if is_given m declared.ty given then first_unmatched_import m (suc n) more others else Some n
first_unmatched_import m n _ _ = None

abbrev pub no_unmatched_import : Option ℕ → Result ⊤ Refusal
no_unmatched_import None = Ok tt
no_unmatched_import (Some n) = Err (refusal.ImportType n)

abbrev pub imports_fit : Machine → ModuleDecl → List Extern → Result ⊤ Refusal
imports_fit m d imports = do
  _ ← unless refusal.WrongStore (list_all (owns_extern m) imports)
  _ ← unless refusal.WrongEngine (nat_eq d.engine.0 m.engine.number)
  _ ← unless refusal.ImportCount (nat_eq (length imports) (length d.imports))
  no_unmatched_import (first_unmatched_import m 0 d.imports imports)

-- ---- the counts: each is raised before the next is tested; objects that the host makes do not count

-- within all limits, or past that of one resource; and the store with the counts that were raised
pub data Counted : Type 0 where
  Within : Machine → Counted
  Past : Resource → Machine → Counted

abbrev pub count_tables : ℕ → Machine → Counted
count_tables n m =
    if nat_le (m.counts.tables + n) m.limits.tables
    then Within (raise_tables m n)
    else Past resource.Table m

abbrev pub count_memories : ℕ → Machine → (Machine → Counted) → Counted
count_memories n m go =
    if nat_le (m.counts.memories + n) m.limits.memories
    then go (raise_memories m n)
    else Past resource.Memory m

abbrev pub count_instance : Machine → (Machine → Counted) → Counted
count_instance m go =
    if nat_le (suc m.counts.instances) m.limits.instances
    then go (raise_instances m)
    else Past resource.Instance m

abbrev pub counted : Machine → ModuleDecl → Counted
counted m d = count_instance m (λ a. count_memories (length d.memories) a (λ b. count_tables (length d.tables) b))

-- ---- the questions: each memory, and then each table, is to grow from nothing to its minimum

abbrev pub where_granted : (World → Outcome) → Decision → World → Outcome
where_granted go Granted w = go w
where_granted go Failed w = Over (Refused refusal.GrowFailed) w
where_granted go Faulted w = Over (Refused refusal.LimiterFault) w

abbrev pub new_memory_plan : Machine → MemoryParts → Plan ⊤
new_memory_plan m ty = plan (memory_range ty) (memory_growing ty 0 ty.minimum) m tt

abbrev pub new_table_plan : Machine → TableParts → Plan ⊤
new_table_plan m ty = plan table_range (table_growing ty 0 ty.minimum) m tt

abbrev pub ask_memories : List MemoryParts → World → (World → Outcome) → Outcome
ask_memories [] w go = go w
ask_memories (ty ∷ more) w go =
    decide Over w (new_memory_plan w.machine ty) (where_granted (λ v. ask_memories more v go))

abbrev pub ask_tables : List TableDecl → World → (World → Outcome) → Outcome
ask_tables [] w go = go w
ask_tables (t ∷ more) w go =
    decide Over w (new_table_plan w.machine t.ty) (where_granted (λ v. ask_tables more v go))

-- ---- the whole

-- the start function is entered with the new instance as the one whose code calls
abbrev pub start : Exec → ℕ → ℕ → List ℕ → World → Option ℕ → Outcome
start f depth instance fs w None = Values (state w [] [])
start f depth instance fs w (Some k) =
    on.found (Over Stuck w) (slice_get fs k) (λ n. entry f depth n [] (Some instance) w)

abbrev pub started : Exec → ℕ → ModuleDecl → List Extern → World → Taken → Outcome
started f depth d imports w (Done after) =
    start f depth (length w.machine.instances) (function_numbers w.machine d imports) (record w { machine = after })
    d.start
started f depth d imports w (OutOfRange t after) = Over (Trapped t) (record w { machine = after })
started f depth d imports w (StuckSegment after) = Over Stuck (record w { machine = after })

-- the turn that makes the instance, and then the start function
abbrev pub making : Exec → ℕ → ModuleDecl → List Extern → World → Outcome
making f depth d imports w = turn Over w (λ v. started f depth d imports v (make v.machine d imports))

abbrev pub by_counts : Exec → ℕ → World → ModuleDecl → List Extern → Counted → Outcome
by_counts f depth w d imports (Past which m) = Over (Refused (refusal.ResourceLimit which)) (record w { machine = m })
by_counts f depth w d imports (Within m) =
    ask_memories d.memories (record w { machine = m }) (λ v. ask_tables d.tables v (making f depth d imports))

abbrev pub by_checks : Exec → ℕ → World → ModuleDecl → List Extern → Result ⊤ Refusal → Outcome
by_checks f depth w d imports (Err why) = Over (Refused why) w
by_checks f depth w d imports (Ok _) = by_counts f depth w d imports (counted w.machine d)

-- where it ends by values the instance was made, as the last of the store before its start function was entered
abbrev pub instantiate : Exec → ℕ → World → ModuleDecl → List Extern → Outcome
instantiate f depth w d imports = by_checks f depth w d imports (imports_fit w.machine d imports)
