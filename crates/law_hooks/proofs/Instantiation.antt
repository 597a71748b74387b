-- Instantiation keeps the calls that are open.
use Rattle.std.proofs.Common.{ℕ, List, [], ◌∷◌, Option, Some, None}
use Rattle.std.specs.Prelude.{⊤, Result, Ok, Err, length, slice_get}
use Rattle.wasm_types.specs.MemoryTypes.{MemoryParts}
use Rattle.wasm_syntax.specs.declared.declarations.ModuleDecl.{ModuleDecl}
use Rattle.wasm_syntax.specs.declared.declarations.TableDecl.{TableDecl}
use Rattle.wasm_values.specs.declared.externals.Extern.{Extern}
use Rattle.wasm_values.specs.declared.refusals.Refusal.{Refusal}
use Rattle.wasm_values.specs.declared.refusals.Refusal.TheVariants as refusal
use Rattle.wasm_meter.specs.declared.call_hook.CallHook.{CallHook}
use Rattle.spec_machine.specs.Growth.{Decision, Granted, Failed, Faulted}
use Rattle.spec_execution.specs.Allocation.{function_numbers}
use Rattle.spec_execution.specs.Entering.{Exec}
use Rattle.spec_execution.specs.Instantiation.{imports_fit, Counted, Within, Past, counted, where_granted, new_memory_plan, new_table_plan, ask_memories, ask_tables, start, started, making, by_counts, by_checks, instantiate}
use Rattle.spec_execution.specs.Outcomes.{World, state, Outcome, Over, Trapped, Refused, Stuck}
use Rattle.spec_execution.specs.Segments.{Taken, Done, OutOfRange, StuckSegment, make}
use Rattle.law_hooks.proofs.Worlds.{Base, Stands, Ends, ended, found_stands, turn_stands, stands_in}
use Rattle.law_hooks.proofs.Outcomes.{Finishes, Good, function_ends, values_finishes}
use Rattle.law_hooks.proofs.Checks.{decide_stands}
use Rattle.law_hooks.proofs.Functions.{entry_finishes}
use Rattle.law_hooks.proofs.SegmentLemmas.{TakesHook, make_hooked, CountsHook, counted_hooked}

module _ (B : Base) (calls : List CallHook) where
  abbrev ends : Ends B Over calls (Finishes B calls)
  ends = function_ends B calls

  abbrev Onward : (World → Outcome) → Type 0
  Onward go = (v : World) → Stands B calls v → Finishes B calls (go v)

  -- ---- the questions

  where_granted_finishes : (go : World → Outcome) → Onward go → (d : Decision) → Onward (where_granted go d)
  where_granted_finishes go j Granted w h = j w h
  where_granted_finishes go j Failed w h = ended B ends (Refused refusal.GrowFailed) w h
  where_granted_finishes go j Faulted w h = ended B ends (Refused refusal.LimiterFault) w h

  ask_memories_finishes : (tys : List MemoryParts) (go : World → Outcome) → Onward go → Onward (λ w. ask_memories tys w go)
  ask_memories_finishes [] go j w h = j w h
  ask_memories_finishes (ty ∷ more) go j w h =
      decide_stands B ends w h (new_memory_plan w.machine ty) _ (λ d v granted k.
      where_granted_finishes (λ u. ask_memories more u go) (ask_memories_finishes more go j) d v k)

  ask_tables_finishes : (ts : List TableDecl) (go : World → Outcome) → Onward go → Onward (λ w. ask_tables ts w go)
  ask_tables_finishes [] go j w h = j w h
  ask_tables_finishes (t ∷ more) go j w h =
      decide_stands B ends w h (new_table_plan w.machine t.ty) _ (λ d v granted k.
      where_granted_finishes (λ u. ask_tables more u go) (ask_tables_finishes more go j) d v k)

  -- ---- the whole

  module _ (f : Exec) (good : Good B f) (depth : ℕ) where
    start_finishes : (instance : ℕ) (fs : List ℕ) (o : Option ℕ) → Onward (λ w. start f depth instance fs w o)
    start_finishes instance fs None w h = values_finishes B calls (state w [] []) h
    start_finishes instance fs (Some k) w h =
        found_stands B ends w (slice_get fs k) _ h (λ x. entry_finishes B calls f good depth x [] (Some instance) w h)

    module _ (d : ModuleDecl) (imports : List Extern) where
      started_finishes :
          (w : World) (t : Taken) → TakesHook B.flags t → Stands B calls w
          → Finishes B calls (started f depth d imports w t)
      started_finishes w (Done after) t h =
          start_finishes (length w.machine.instances) (function_numbers w.machine d imports) d.start
          (record w { machine = after }) (stands_in B calls w after t.by h)
      started_finishes w (OutOfRange why after) t h =
          ended B ends (Trapped why) (record w { machine = after }) (stands_in B calls w after t.by h)
      started_finishes w (StuckSegment after) t h =
          ended B ends Stuck (record w { machine = after }) (stands_in B calls w after t.by h)

      making_finishes : Onward (making f depth d imports)
      making_finishes w h =
          turn_stands B ends w _ h (λ v k.
          started_finishes v (make v.machine d imports) (make_hooked B.flags v.machine d imports k.flags) k)

      by_counts_finishes :
          (w : World) (c : Counted) → CountsHook B.flags c → Stands B calls w
          → Finishes B calls (by_counts f depth w d imports c)
      by_counts_finishes w (Past which m) c h =
          ended B ends (Refused (refusal.ResourceLimit which)) (record w { machine = m }) (stands_in B calls w m c.by h)
      by_counts_finishes w (Within m) c h =
          ask_memories_finishes d.memories _ (ask_tables_finishes d.tables (making f depth d imports) making_finishes)
          (record w { machine = m }) (stands_in B calls w m c.by h)

      by_checks_finishes :
          (w : World) (fit : Result ⊤ Refusal) → Stands B calls w → Finishes B calls (by_checks f depth w d imports fit)
      by_checks_finishes w (Err why) h = ended B ends (Refused why) w h
      by_checks_finishes w (Ok done) h =
          by_counts_finishes w (counted w.machine d) (counted_hooked B.flags w.machine d h.flags) h

      pub instantiate_finishes : Onward (λ w. instantiate f depth w d imports)
      instantiate_finishes w h = by_checks_finishes w (imports_fit w.machine d imports) h
