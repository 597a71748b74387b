-- Instantiation: a growth that fails was denied, or is of a memory or a table that fails without a limiter, too.
use Rattle.std.proofs.Common.{◌≡◌, inl, inr, ℕ, List, [], ◌∷◌, Option, Some, None, refl}
use Rattle.std.specs.Prelude.{⊤, Result, Ok, Err, length, slice_get}
use Rattle.wasm_types.specs.MemoryTypes.{MemoryParts}
use Rattle.wasm_syntax.specs.declared.declarations.ModuleDecl.{ModuleDecl}
use Rattle.wasm_syntax.specs.declared.declarations.TableDecl.{TableDecl}
use Rattle.wasm_values.specs.declared.externals.Extern.{Extern}
use Rattle.wasm_values.specs.declared.refusals.Refusal.{Refusal}
use Rattle.wasm_values.specs.declared.refusals.Refusal.TheVariants as refusal
use Rattle.spec_machine.specs.Growth.{Decision, Granted, Failed, Faulted, Plan}
use Rattle.spec_machine.specs.Machine.{Machine}
use Rattle.spec_execution.specs.Allocation.{function_numbers}
use Rattle.spec_execution.specs.Askings.{Asking}
use Rattle.spec_execution.specs.Entering.{Exec}
use Rattle.spec_execution.specs.Instantiation.{imports_fit, Counted, Within, Past, counted, where_granted, new_memory_plan, new_table_plan, ask_memories, ask_tables, start, started, making, by_counts, by_checks, instantiate}
use Rattle.spec_execution.specs.Outcomes.{World, state, Outcome, Over, Trapped, Refused, Stuck}
use Rattle.spec_execution.specs.Segments.{Taken, Done, OutOfRange, StuckSegment, make}
use Rattle.law_causes.specs.Causes.{Reasons, IsVain, ForOne, making_reasons}
use Rattle.law_causes.proofs.CausesHeard.{Gives}
use Rattle.law_causes.proofs.OwnRefusals.{IsCondition, imports_own, unfit_refuses}
use Rattle.law_causes.proofs.Worlds.{Since, Ends, turn_since, since_lasts, caused_own, caused_for}
use Rattle.law_causes.proofs.Outcomes.{Keeps, Good, code_ends, values_keeps, found_keeps}
use Rattle.law_causes.proofs.Checks.{Decided, vain_for, decide_since}
use Rattle.law_causes.proofs.Functions.{entry_keeps}

module _ (B : List Asking) (reason : Reasons) where
  abbrev ends : Ends B Over reason (Keeps B reason)
  ends = code_ends B reason

  abbrev Onward : (World → Outcome) → Type 0
  Onward go = (v : World) → Since B v → Keeps B reason (go v)

  -- ---- the questions

  -- where a denial refuses it
  module _ (grows : reason.grows) where
    where_granted_keeps :
        {A : Type 0} (p : Plan A) → (IsVain p → reason.own refusal.GrowFailed) → (go : World → Outcome) → Onward go → (d : Decision) (w : World)
        → Decided B p d w → Keeps B reason (where_granted go d w)
    where_granted_keeps p vain go j Granted w h = j w h.by
    where_granted_keeps p vain go j Failed w h =
        ends.by (Refused refusal.GrowFailed) w (caused_for B (vain_for p reason vain grows) refusal.GrowFailed w h.by)
    where_granted_keeps p vain go j Faulted w h =
        ends.by (Refused refusal.LimiterFault) w (caused_for B (vain_for p reason vain grows) refusal.LimiterFault w h.by)

    module _ (m : Machine) where
      ask_memories_keeps :
          (tys : List MemoryParts) → (ForOne (λ ty. IsVain (new_memory_plan m ty)) tys → reason.own refusal.GrowFailed) → (go : World → Outcome)
          → Onward go → Onward (λ w. ask_memories tys w go)
      ask_memories_keeps [] vain go j w h = j w h
      ask_memories_keeps (ty ∷ more) vain go j w h =
          decide_since B ends w h (new_memory_plan w.machine ty) _
          (where_granted_keeps (new_memory_plan w.machine ty) (λ x. vain (inl x)) (λ u. ask_memories more u go)
          (ask_memories_keeps more (λ x. vain (inr x)) go j))

      ask_tables_keeps :
          (ts : List TableDecl) → (ForOne (λ (t : TableDecl). IsVain (new_table_plan m t.ty)) ts → reason.own refusal.GrowFailed)
          → (go : World → Outcome) → Onward go → Onward (λ w. ask_tables ts w go)
      ask_tables_keeps [] vain go j w h = j w h
      ask_tables_keeps (t ∷ more) vain go j w h =
          decide_since B ends w h (new_table_plan w.machine t.ty) _
          (where_granted_keeps (new_table_plan w.machine t.ty) (λ x. vain (inl x)) (λ u. ask_tables more u go)
          (ask_tables_keeps more (λ x. vain (inr x)) go j))

  -- ---- the whole

  module _ (f : Exec) (good : Good B reason f) (depth : ℕ) where
    start_keeps : (instance : ℕ) (fs : List ℕ) (o : Option ℕ) → Onward (λ w. start f depth instance fs w o)
    start_keeps instance fs None w h = values_keeps B reason (state w [] []) h
    start_keeps instance fs (Some k) w h =
        found_keeps B reason w h (slice_get fs k) _ (λ x. entry_keeps B reason f good depth x [] (Some instance) w h)

    module _ (d : ModuleDecl) (imports : List Extern) where
      started_keeps : (w : World) (t : Taken) → Since B w → Keeps B reason (started f depth d imports w t)
      started_keeps w (Done after) h =
          start_keeps (length w.machine.instances) (function_numbers w.machine d imports) d.start
          (record w { machine = after }) (record { more = h.more; course = h.course })
      started_keeps w (OutOfRange why after) h =
          ends.by (Trapped why) (record w { machine = after }) (record { more = h.more; course = h.course })
      started_keeps w (StuckSegment after) h =
          ends.by Stuck (record w { machine = after }) (record { more = h.more; course = h.course })

      making_keeps : Onward (making f depth d imports)
      making_keeps w h =
          turn_since B ends (since_lasts B) w _ h (λ v k. started_keeps v (make v.machine d imports) k)

      by_counts_keeps :
          (m : Machine) (w : World) (c : Counted) → Gives (making_reasons m d imports) reason
          → Since B w → Keeps B reason (by_counts f depth w d imports c)
      by_counts_keeps m w (Past which n) makes h =
          ends.by (Refused (refusal.ResourceLimit which)) (record w { machine = n })
          (caused_own B reason (refusal.ResourceLimit which) (record w { machine = n }) tt
          (makes.own (refusal.ResourceLimit which) tt) (record { more = h.more; course = h.course }))
      by_counts_keeps m w (Within n) makes h =
          ask_memories_keeps (makes.grows tt) m d.memories (λ x. makes.own refusal.GrowFailed (inl x)) _
          (ask_tables_keeps (makes.grows tt) m d.tables (λ x. makes.own refusal.GrowFailed (inr x)) (making f depth d imports) making_keeps)
          (record w { machine = n }) (record { more = h.more; course = h.course })

      -- over the store where it begins
      module _ (w : World) (makes : Gives (making_reasons w.machine d imports) reason)
          (h : Since B w) where
        by_checks_keeps :
            (fit : Result ⊤ Refusal) → imports_fit w.machine d imports ≡ fit → IsCondition fit
            → Keeps B reason (by_checks f depth w d imports fit)
        by_checks_keeps (Err why) e own =
            ends.by (Refused why) w
            (caused_own B reason why w own.by (makes.own why (unfit_refuses w.machine d imports why own.by e)) h)
        by_checks_keeps (Ok done) e own = by_counts_keeps w.machine w (counted w.machine d) makes h

        pub instantiate_keeps : Keeps B reason (instantiate f depth w d imports)
        instantiate_keeps = by_checks_keeps (imports_fit w.machine d imports) refl (imports_own w.machine d imports)
