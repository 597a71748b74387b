-- Worked examples of the definitions, each by computation: of single calls. Those of runs of commands stand over the
-- definitions of runs.
use Rattle.std.proofs.Common.{◌≡◌, ℕ, [], ◌∷◌, Some, None, refl}
use Rattle.std.specs.Prelude.{◌-◌, ◌^◌, pos, negsuc, Result, Ok, Err, true, false}
use Rattle.wasm_types.specs.FunctionParts.{ref_type}
use Rattle.wasm_types.specs.GlobalTypes.{global_parts}
use Rattle.wasm_types.specs.MemoryTypes.{memory_parts}
use Rattle.wasm_types.specs.declared.plain.Mutability.TheVariants.{Const, Var}
use Rattle.wasm_types.specs.declared.value_types.HeapType.TheVariants as h
use Rattle.wasm_types.specs.declared.value_types.ValType.TheVariants as t
use Rattle.wasm_meter.specs.Growths.{memory_growth}
use Rattle.wasm_values.specs.Handles.{memory_of, table_of}
use Rattle.wasm_values.specs.declared.handles.Table.{Table}
use Rattle.wasm_values.specs.declared.refusals.Refusal.{Refusal}
use Rattle.wasm_values.specs.declared.refusals.Refusal.TheVariants.{WrongStore, WrongEngine, TypeMismatch, ImmutableGlobal, MemoryAccessError, FuelNotConfigured, FuelInterval}
use Rattle.wasm_values.specs.declared.references.Ref.{Ref}
use Rattle.wasm_values.specs.declared.references.Ref.TheVariants as r
use Rattle.wasm_values.specs.declared.values.Val.TheVariants as v
use Rattle.spec_machine.specs.FuelCalls.{get_fuel, fill_fuel, yield_interval, move_deadline}
use Rattle.spec_machine.specs.GlobalCalls.{global_new, global_get, global_set}
use Rattle.spec_machine.specs.Growth.{Plan, Rule, Grows, Fails, Asks, plan_rule}
use Rattle.spec_machine.specs.Machine.{Machine}
use Rattle.spec_machine.specs.MemoryCalls.{memory_new, memory_size, memory_read, memory_write, memory_grow}
use Rattle.spec_machine.specs.Steps.{◌>>=◌}
use Rattle.spec_machine.specs.TableCalls.{table_new, table_get, table_set, table_grow}
use Rattle.spec_machine.specs.ValueCalls.{val_matches_ty, ref_matches_ty}
use Rattle.spec_machine.proofs.Samples.{id, other_id, engine, empty, bytes4, externs4, nothing, i32}

-- a store with a memory of four bytes, and one whose limiter is asked
abbrev stored : Machine
stored = (memory_new empty bytes4).after

abbrev asking : Machine
asking = record stored { is_limited = true }

another_store : memory_size stored (memory_of other_id 0) ≡ Err WrongStore
another_store = refl

-- bytes that are written are read again, and a range past the end is refused
writes_and_reads : (memory_write stored (memory_of id 0) 2 (1 ∷ 2 ∷ []) >>= (λ m. memory_read m (memory_of id 0) 1 3))
    ≡ Ok (0 ∷ 1 ∷ 2 ∷ [])
writes_and_reads = refl

refuses_past_the_end : memory_write stored (memory_of id 0) 3 (1 ∷ 2 ∷ []) ≡ Err MemoryAccessError
refuses_past_the_end = refl

-- up to the declared maximum a growth is granted; a limiter is asked before that is looked at, but never for nothing
abbrev rule : Machine → ℕ → Result Rule Refusal
rule m delta = memory_grow m (memory_of id 0) delta >>= (λ p. Ok (plan_rule m p))

grows_to_the_maximum : (rule stored 2 ≡ Ok Grows) × (rule stored 3 ≡ Ok Fails)
grows_to_the_maximum = (refl, refl)

asks_a_limiter : (rule asking 0 ≡ Ok Grows) × (rule asking 3 ≡ Ok Asks)
asks_a_limiter = (refl, refl)

-- the question is in bytes
asks_in_bytes : (memory_new empty (memory_parts 1 (Some 3) 16)).growth ≡ memory_growth 0 65536 (Some 196608)
asks_in_bytes = refl

-- a table of data of the host
abbrev external : ℕ → Ref
external number = r.Extern (Some (record { 0 = number }))

abbrev made : Result (Plan Table) Refusal
made = table_new empty externs4 (Some (external 7))

grows_by_what_is_given : (made >>= (λ p. table_grow p.after (table_of id 0) 2 (Some (external 5))
    >>= (λ q. table_get q.after (table_of id 0) 5))) ≡ Ok (Some (external 5))
grows_by_what_is_given = refl

sets_references_alone : (made >>= (λ p. table_set p.after (table_of id 0) 1 None)) ≡ Err TypeMismatch
sets_references_alone = refl

-- a constant global is not set
sets_variables : (global_new empty (global_parts t.I32 Var) (i32 3)
    >>= (λ g. global_set g.0 g.1 (i32 4) >>= (λ m. global_get m g.1))) ≡ Ok (i32 4)
sets_variables = refl

sets_no_constants : (global_new empty (global_parts t.I32 Const) (i32 3)
    >>= (λ g. global_set g.0 g.1 (i32 4))) ≡ Err ImmutableGlobal
sets_no_constants = refl

-- a function against a type of another engine, and a null against a type that is not nullable
refuses_types_of_engines : val_matches_ty empty (v.FuncRef None) (t.Ref (ref_type true (h.ConcreteFunc (nothing 2)))) ≡ Err WrongEngine
refuses_types_of_engines = refl

nulls_match_nullable_types : (ref_matches_ty empty (r.Func None) (ref_type true (h.ConcreteFunc (nothing 1))) ≡ Ok true) × (ref_matches_ty empty (r.Func None) (ref_type false h.Func) ≡ Ok false)
nulls_match_nullable_types = (refl, refl)

-- a store whose engine consumes fuel, and which owes five
abbrev owing : Machine
owing = record empty { engine = record (engine 9) { consumes_fuel = true }; fuel = negsuc 4 }

needs_fuel_in_the_engine : (get_fuel empty ≡ Err FuelNotConfigured) × (fill_fuel empty 7 ≡ Err FuelNotConfigured) × (yield_interval empty (Some 0) ≡ Err FuelNotConfigured)
needs_fuel_in_the_engine = (refl, refl, refl)

-- what is owed is not told, and another interval forgets it
tells_no_debt : get_fuel owing ≡ Ok 0
tells_no_debt = refl

forgets_debts : yield_interval owing (Some 3) ≡ Ok (record owing { fuel = pos 0 })
forgets_debts = refl

refuses_an_interval_of_nothing : yield_interval owing (Some 0) ≡ Err FuelInterval
refuses_an_interval_of_nothing = refl

-- just what is filled in is told, whatever was owed
tells_what_is_filled : ((fill_fuel owing 10 >>= get_fuel) ≡ Ok 10) × ((fill_fuel owing (2 ^ 64 - 1) >>= get_fuel) ≡ Ok (2 ^ 64 - 1)) × ((fill_fuel owing 0 >>= get_fuel) ≡ Ok 0)
tells_what_is_filled = (refl, refl, refl)

-- the last reading of all is past each deadline
moves_the_deadline : ((move_deadline empty 10 32).deadline ≡ 42) × ((move_deadline empty 0 (2 ^ 64 - 1)).deadline ≡ 2 ^ 64 - 2) × ((move_deadline empty (2 ^ 64 - 1) 7).deadline ≡ 2 ^ 64 - 2)
moves_the_deadline = (refl, refl, refl)
