-- Two runs side by side: instantiation.
use Rattle.std.proofs.Common.{ℕ, List, [], ◌∷◌, Option, Some, None, length}
use Rattle.std.specs.Prelude.{⊤, Result, Ok, Err, slice_get}
use Rattle.wasm_types.specs.MemoryTypes.{MemoryParts}
use Rattle.wasm_syntax.specs.declared.declarations.ModuleDecl.{ModuleDecl}
use Rattle.wasm_syntax.specs.declared.declarations.TableDecl.{TableDecl}
use Rattle.wasm_values.specs.declared.externals.Extern.{Extern}
use Rattle.wasm_values.specs.declared.refusals.Refusal.{Refusal}
use Rattle.wasm_values.specs.declared.refusals.Refusal.TheVariants as refusal
use Rattle.spec_machine.specs.Growth.{Decision, Granted, Failed, Faulted}
use Rattle.spec_execution.specs.Allocation.{function_numbers}
use Rattle.spec_execution.specs.Entering.{Exec}
use Rattle.spec_execution.specs.Instantiation.{imports_fit, Counted, Within, Past, counted, where_granted, new_memory_plan, new_table_plan, ask_memories, ask_tables, start, started, making, by_counts, by_checks, instantiate}
use Rattle.spec_execution.specs.Outcomes.{World, state, Outcome, Trapped, Refused, Stuck}
use Rattle.spec_execution.specs.Segments.{Taken, Done, OutOfRange, StuckSegment, make}
use Rattle.spec_execution.proofs.Ways.{Way, shift, Below, Alike, Fits, code_ends, below_changed, values, over, turn_alike, found}
use Rattle.spec_execution.proofs.WaysOfChecks.{decide_alike}
use Rattle.spec_execution.proofs.WaysOfCalls.{entry_alike}

module _ (W : Way) (n : ℕ) where
  abbrev Onward : (World → Outcome) → (World → Outcome) → Type 0
  Onward go go' = (v : World) → Below W n v → Alike W n (go v) (go' (shift W v))

  -- ---- the questions

  where_granted_alike :
      (go go' : World → Outcome) → Onward go go' → (d : Decision) → Onward (where_granted go d) (where_granted go' d)
  where_granted_alike go go' j Granted w b = j w b
  where_granted_alike go go' j Failed w b = over W n (Refused refusal.GrowFailed) w b.held
  where_granted_alike go go' j Faulted w b = over W n (Refused refusal.LimiterFault) w b.held

  ask_memories_alike :
      (tys : List MemoryParts) (w : World) (go go' : World → Outcome) → Onward go go' → Below W n w
      → Alike W n (ask_memories tys w go) (ask_memories tys (shift W w) go')
  ask_memories_alike [] w go go' j b = j w b
  ask_memories_alike (ty ∷ more) w go go' j b =
      decide_alike W (code_ends W n) n w (new_memory_plan w.machine ty) (where_granted (λ v. ask_memories more v go))
      (where_granted (λ v. ask_memories more v go'))
      (where_granted_alike (λ v. ask_memories more v go) (λ v. ask_memories more v go')
      (λ v c. ask_memories_alike more v go go' j c)) b

  ask_tables_alike :
      (ts : List TableDecl) (w : World) (go go' : World → Outcome) → Onward go go' → Below W n w
      → Alike W n (ask_tables ts w go) (ask_tables ts (shift W w) go')
  ask_tables_alike [] w go go' j b = j w b
  ask_tables_alike (t ∷ more) w go go' j b =
      decide_alike W (code_ends W n) n w (new_table_plan w.machine t.ty) (where_granted (λ v. ask_tables more v go))
      (where_granted (λ v. ask_tables more v go'))
      (where_granted_alike (λ v. ask_tables more v go) (λ v. ask_tables more v go')
      (λ v c. ask_tables_alike more v go go' j c)) b

  -- ---- the whole

  module _ (f g : Exec) (fits : Fits W n f g) (depth : ℕ) where
    start_alike :
        (instance : ℕ) (fs : List ℕ) (w : World) (o : Option ℕ) → Below W n w
        → Alike W n (start f depth instance fs w o) (start g depth instance fs (shift W w) o)
    start_alike instance fs w None b = values W n (state w [] []) b
    start_alike instance fs w (Some k) b =
        found W n w b.held (slice_get fs k) _ _ (λ x. entry_alike W n f g fits depth x [] (Some instance) w b)

    module _ (d : ModuleDecl) (imports : List Extern) where
      started_alike :
          (w : World) (t : Taken) → Below W n w
          → Alike W n (started f depth d imports w t) (started g depth d imports (shift W w) t)
      started_alike w (Done after) b =
          start_alike (length w.machine.instances) (function_numbers w.machine d imports) (record w { machine = after })
          d.start (below_changed W n w after b)
      started_alike w (OutOfRange t after) b =
          over W n (Trapped t) (record w { machine = after }) (W.changed w after b.held)
      started_alike w (StuckSegment after) b =
          over W n Stuck (record w { machine = after }) (W.changed w after b.held)

      making_alike :
          (w : World) → Below W n w → Alike W n (making f depth d imports w) (making g depth d imports (shift W w))
      making_alike w b =
          turn_alike W (code_ends W n) n w (λ v. started f depth d imports v (make v.machine d imports))
          (λ v. started g depth d imports v (make v.machine d imports)) b
          (λ v c. started_alike v (make v.machine d imports) c)

      by_counts_alike :
          (w : World) (c : Counted) → Below W n w
          → Alike W n (by_counts f depth w d imports c) (by_counts g depth (shift W w) d imports c)
      by_counts_alike w (Past which m) b =
          over W n (Refused (refusal.ResourceLimit which)) (record w { machine = m }) (W.changed w m b.held)
      by_counts_alike w (Within m) b =
          ask_memories_alike d.memories (record w { machine = m }) _ _
          (λ v c. ask_tables_alike d.tables v (making f depth d imports) (making g depth d imports) making_alike c)
          (below_changed W n w m b)

      by_checks_alike :
          (w : World) (fit : Result ⊤ Refusal) → Below W n w
          → Alike W n (by_checks f depth w d imports fit) (by_checks g depth (shift W w) d imports fit)
      by_checks_alike w (Err why) b = over W n (Refused why) w b.held
      by_checks_alike w (Ok _) b = by_counts_alike w (counted w.machine d) b

      pub instantiate_alike :
          (w : World) → Below W n w
          → Alike W n (instantiate f depth w d imports) (instantiate g depth (shift W w) d imports)
      instantiate_alike w b = by_checks_alike w (imports_fit w.machine d imports) b
