-- Instantiations are dialogues, where the code behind a turn is.
use Rattle.std.proofs.Common.{ℕ, ◌<◌, ◌≤◌, List, [], ◌∷◌, Option, Some, None, length}
use Rattle.std.specs.Prelude.{⊤, Result, Ok, Err, slice_get}
use Rattle.wasm_types.specs.MemoryTypes.{MemoryParts}
use Rattle.wasm_syntax.specs.declared.declarations.ModuleDecl.{ModuleDecl}
use Rattle.wasm_syntax.specs.declared.declarations.TableDecl.{TableDecl}
use Rattle.wasm_values.specs.declared.externals.Extern.{Extern}
use Rattle.wasm_values.specs.declared.refusals.Refusal.{Refusal}
use Rattle.wasm_values.specs.declared.refusals.Refusal.TheVariants as refusal
use Rattle.spec_machine.specs.Growth.{Decision, Granted, Failed, Faulted}
use Rattle.spec_execution.specs.Allocation.{function_numbers}
use Rattle.spec_execution.specs.Bodies.{exec}
use Rattle.spec_execution.specs.Instantiation.{imports_fit, Counted, Within, Past, counted, where_granted, new_memory_plan, new_table_plan, ask_memories, ask_tables, start, started, making, by_counts, by_checks, instantiate}
use Rattle.spec_execution.specs.Outcomes.{World, state, Outcome, Trapped, Refused, Stuck}
use Rattle.spec_execution.specs.Segments.{Taken, Done, OutOfRange, StuckSegment, make}
use Rattle.law_answers.proofs.Dialogues.{at, turn_reads}
use Rattle.law_answers.proofs.CodeDialogues.{code, Runs, ends_over, values, found}
use Rattle.law_answers.proofs.DialoguesOfCalls.{Keeps, early, entry_reads}
use Rattle.law_answers.proofs.DialoguesOfChecks.{Onward, decide_reads}

module _ (n m : ℕ) (le : n ≤ m) where
  -- ---- the questions

  where_granted_reads : (go : World → Outcome) → Onward n m n go → (d : Decision) → Onward n m n (where_granted go d)
  where_granted_reads go j Granted v c d = j v c d
  where_granted_reads go j Failed v c d = ends_over n m (Refused refusal.GrowFailed) v c
  where_granted_reads go j Faulted v c d = ends_over n m (Refused refusal.LimiterFault) v c

  ask_memories_reads :
      (tys : List MemoryParts) (w : World) (go : World → Outcome) → Onward n m n go → w.turns < n
      → Runs n m (λ h l. ask_memories tys (at w h l) go)
  ask_memories_reads [] w go j few = j w (early n m le w.turns few) few
  ask_memories_reads (ty ∷ more) w go j few =
      decide_reads (code n m) n w (new_memory_plan w.machine ty) (where_granted (λ v. ask_memories more v go))
      (where_granted_reads (λ v. ask_memories more v go) (λ v c d. ask_memories_reads more v go j d))
      (early n m le w.turns few) few

  ask_tables_reads :
      (ts : List TableDecl) (w : World) (go : World → Outcome) → Onward n m n go → w.turns < n
      → Runs n m (λ h l. ask_tables ts (at w h l) go)
  ask_tables_reads [] w go j few = j w (early n m le w.turns few) few
  ask_tables_reads (t ∷ more) w go j few =
      decide_reads (code n m) n w (new_table_plan w.machine t.ty) (where_granted (λ v. ask_tables more v go))
      (where_granted_reads (λ v. ask_tables more v go) (λ v c d. ask_tables_reads more v go j d))
      (early n m le w.turns few) few

  -- ---- the whole

  module _ (keeps : Keeps n m) (depth : ℕ) where
    start_reads :
        (instance : ℕ) (fs : List ℕ) (w : World) (o : Option ℕ) → w.turns < n
        → Runs n m (λ h l. start exec depth instance fs (at w h l) o)
    start_reads instance fs w None few = values n m (state w [] []) few
    start_reads instance fs w (Some k) few =
        found n m w (early n m le w.turns few) (slice_get fs k) _
        (λ x. entry_reads n m le keeps depth x [] (Some instance) w few)

    module _ (d : ModuleDecl) (imports : List Extern) where
      started_reads :
          (w : World) (t : Taken) → w.turns < n → Runs n m (λ h l. started exec depth d imports (at w h l) t)
      started_reads w (Done after) few =
          start_reads (length w.machine.instances) (function_numbers w.machine d imports) (record w { machine = after })
          d.start few
      started_reads w (OutOfRange t after) few =
          ends_over n m (Trapped t) (record w { machine = after }) (early n m le w.turns few)
      started_reads w (StuckSegment after) few =
          ends_over n m Stuck (record w { machine = after }) (early n m le w.turns few)

      making_reads : (w : World) → w.turns < n → Runs n m (λ h l. making exec depth d imports (at w h l))
      making_reads w few =
          turn_reads (code n m) n w (λ v. started exec depth d imports v (make v.machine d imports))
          (early n m le w.turns few) few (λ v c e. started_reads v (make v.machine d imports) e)

      by_counts_reads :
          (w : World) (c : Counted) → w.turns < n → Runs n m (λ h l. by_counts exec depth (at w h l) d imports c)
      by_counts_reads w (Past which x) few =
          ends_over n m (Refused (refusal.ResourceLimit which)) (record w { machine = x }) (early n m le w.turns few)
      by_counts_reads w (Within x) few =
          ask_memories_reads d.memories (record w { machine = x }) _
          (λ v c e. ask_tables_reads d.tables v (making exec depth d imports) (λ u c' e'. making_reads u e') e) few

      by_checks_reads :
          (w : World) (fit : Result ⊤ Refusal) → w.turns < n
          → Runs n m (λ h l. by_checks exec depth (at w h l) d imports fit)
      by_checks_reads w (Err why) few = ends_over n m (Refused why) w (early n m le w.turns few)
      by_checks_reads w (Ok done) few = by_counts_reads w (counted w.machine d) few

      pub instantiate_reads :
          (w : World) → w.turns < n → Runs n m (λ h l. instantiate exec depth (at w h l) d imports)
      instantiate_reads w few = by_checks_reads w (imports_fit w.machine d imports) few
