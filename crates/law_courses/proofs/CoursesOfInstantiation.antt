-- A run beside another: instantiation.
use Rattle.std.proofs.Common.{◌≡◌, ℕ, List, [], ◌∷◌, Option, Some, None, length, refl, sym, subst}
use Rattle.std.specs.Prelude.{⊤, Result, Ok, Err, slice_get}
use Rattle.wasm_types.specs.Each.{Each}
use Rattle.wasm_types.specs.MemoryTypes.{MemoryParts}
use Rattle.wasm_syntax.specs.declared.declarations.ModuleDecl.{ModuleDecl}
use Rattle.wasm_syntax.specs.declared.declarations.TableDecl.{TableDecl}
use Rattle.wasm_values.specs.declared.externals.Extern.{Extern}
use Rattle.wasm_values.specs.declared.refusals.Refusal.{Refusal}
use Rattle.wasm_values.specs.declared.refusals.Refusal.TheVariants as refusal
use Rattle.law_store.proofs.Lists.{each_none}
use Rattle.spec_machine.specs.Growth.{Decision, Granted, Failed, Faulted}
use Rattle.spec_execution.specs.Allocation.{function_numbers}
use Rattle.spec_execution.specs.Bodies.{exec}
use Rattle.spec_execution.specs.Instantiation.{imports_fit, Counted, Within, Past, counted, where_granted, new_memory_plan, new_table_plan, ask_memories, ask_tables, start, started, making, by_counts, by_checks, instantiate}
use Rattle.spec_execution.specs.Outcomes.{World, state, Outcome, Trapped, Refused, Stuck}
use Rattle.spec_execution.specs.Segments.{Taken, Done, OutOfRange, StuckSegment, make}
use Rattle.law_courses.proofs.Bounds.{Bounds, IsCountedIn, IsTakenIn, counted_in, taken_in, Turns}
use Rattle.law_courses.proofs.Courses.{twin, Below, Alike, code_ends, values, over, turn_alike, found, below_in, inside_in}
use Rattle.law_courses.proofs.CoursesOfCalls.{Keeps, bare, entry_alike}
use Rattle.law_courses.proofs.CoursesOfChecks.{decide_alike}

module _ (B : Bounds) (T : Turns B) (n : ℕ) where
  abbrev Onward : (World → Outcome) → (World → Outcome) → Type 0
  Onward go go' = (v : World) → Below B n v → Alike B n (go v) (go' (twin B v))

  -- ---- the questions

  where_granted_alike :
      (go go' : World → Outcome) → Onward go go' → (d : Decision) → Onward (where_granted go d) (where_granted go' d)
  where_granted_alike go go' j Granted v b = j v b
  where_granted_alike go go' j Failed v b = over B n (Refused refusal.GrowFailed) v b.held
  where_granted_alike go go' j Faulted v b = over B n (Refused refusal.LimiterFault) v b.held

  ask_memories_alike :
      (tys : List MemoryParts) (v : World) (go go' : World → Outcome) → Onward go go' → Below B n v
      → Alike B n (ask_memories tys v go) (ask_memories tys (twin B v) go')
  ask_memories_alike [] v go go' j b = j v b
  ask_memories_alike (ty ∷ more) v go go' j b =
      decide_alike B T (code_ends B n) n v (new_memory_plan v.machine ty) (B.other v.machine)
      (where_granted (λ u. ask_memories more u go)) (where_granted (λ u. ask_memories more u go'))
      (where_granted_alike (λ u. ask_memories more u go) (λ u. ask_memories more u go')
      (λ u c. ask_memories_alike more u go go' j c)) b

  ask_tables_alike :
      (ts : List TableDecl) (v : World) (go go' : World → Outcome) → Onward go go' → Below B n v
      → Alike B n (ask_tables ts v go) (ask_tables ts (twin B v) go')
  ask_tables_alike [] v go go' j b = j v b
  ask_tables_alike (t ∷ more) v go go' j b =
      decide_alike B T (code_ends B n) n v (new_table_plan v.machine t.ty) (B.other v.machine)
      (where_granted (λ u. ask_tables more u go)) (where_granted (λ u. ask_tables more u go'))
      (where_granted_alike (λ u. ask_tables more u go) (λ u. ask_tables more u go')
      (λ u c. ask_tables_alike more u go go' j c)) b

  -- ---- the whole

  module _ (keeps : Keeps B n) (depth : ℕ) where
    start_alike :
        (instance : ℕ) (fs : List ℕ) (v : World) (o : Option ℕ) → B.IsHome instance → Each fs B.IsCallee → Below B n v
        → Alike B n (start exec depth instance fs v o) (start exec depth instance fs (twin B v) o)
    start_alike instance fs v None home callees b = values B n (state v [] []) (bare B T n v b)
    start_alike instance fs v (Some k) home callees b =
        found B T n v b.held (slice_get fs k) _ _
        (λ x e. entry_alike B T n keeps depth x [] (Some instance) v (callees k x e) (each_none B.IsHeld) home b)

    module _ (d : ModuleDecl) (imports : List Extern) (given : B.AreGiven imports) where
      started_alike :
          (v : World) (t : Taken) → IsTakenIn B t → Below B n v
          → Alike B n (started exec depth d imports v t) (started exec depth d imports (twin B v) (taken_in B.other t))
      started_alike v (Done after) k b =
          let e = T.numbers v.machine d imports b.held.store given in
          subst (λ (i : ℕ). Alike B n (started exec depth d imports v (Done after))
          (start exec depth i (function_numbers (B.other v.machine) d imports)
          (record v { machine = B.other after }) d.start))
          (sym (T.same v.machine b.held.store).instances)
          (subst (λ (fs : List ℕ). Alike B n (started exec depth d imports v (Done after))
          (start exec depth (length v.machine.instances) fs (record v { machine = B.other after }) d.start)) (sym e.1)
          (start_alike (length v.machine.instances) (function_numbers v.machine d imports) (record v { machine = after })
          d.start (T.new_home v.machine b.held.store) e.0 (below_in B T n v after k b)))
      started_alike v (OutOfRange t after) k b =
          over B n (Trapped t) (record v { machine = after }) (inside_in B T v after k b.held)
      started_alike v (StuckSegment after) k b =
          over B n Stuck (record v { machine = after }) (inside_in B T v after k b.held)

      making_alike :
          (v : World) → Below B n v → Alike B n (making exec depth d imports v) (making exec depth d imports (twin B v))
      making_alike v b =
          turn_alike B T (code_ends B n) n v (λ u. started exec depth d imports u (make u.machine d imports))
          (λ u. started exec depth d imports u (make u.machine d imports)) b
          (λ u c.
          let k = T.makes u.machine d imports c.held.store given in
          subst (λ (t : Taken). Alike B n (started exec depth d imports u (make u.machine d imports))
          (started exec depth d imports (twin B u) t)) (sym k.1)
          (started_alike u (make u.machine d imports) k.0 c))

      by_counts_alike :
          (v : World) (c : Counted) → IsCountedIn B c → Below B n v
          → Alike B n (by_counts exec depth v d imports c)
          (by_counts exec depth (twin B v) d imports (counted_in B.other c))
      by_counts_alike v (Past which m) k b =
          over B n (Refused (refusal.ResourceLimit which)) (record v { machine = m }) (inside_in B T v m k b.held)
      by_counts_alike v (Within m) k b =
          ask_memories_alike d.memories (record v { machine = m }) _ _
          (λ u c. ask_tables_alike d.tables u (making exec depth d imports) (making exec depth d imports) making_alike c)
          (below_in B T n v m k b)

      counting_alike :
          (v : World) → Below B n v
          → Alike B n (by_counts exec depth v d imports (counted v.machine d))
          (by_counts exec depth (twin B v) d imports (counted (B.other v.machine) d))
      counting_alike v b =
          let k = T.counts v.machine d b.held.store in
          subst (λ (c : Counted). Alike B n (by_counts exec depth v d imports (counted v.machine d))
          (by_counts exec depth (twin B v) d imports c)) (sym k.1) (by_counts_alike v (counted v.machine d) k.0 b)

    by_checks_alike :
        (d : ModuleDecl) (imports : List Extern) (v : World) (fit : Result ⊤ Refusal)
        → (fit ≡ Ok tt → B.AreGiven imports) → Below B n v
        → Alike B n (by_checks exec depth v d imports fit) (by_checks exec depth (twin B v) d imports fit)
    by_checks_alike d imports v (Err why) given b = over B n (Refused why) v b.held
    by_checks_alike d imports v (Ok done) given b = counting_alike d imports (given refl) v b

    pub instantiate_alike :
        (d : ModuleDecl) (imports : List Extern) (v : World) → B.AreNamed imports → Below B n v
        → Alike B n (instantiate exec depth v d imports) (instantiate exec depth (twin B v) d imports)
    instantiate_alike d imports v named b =
        let c = T.checks v.machine d imports b.held.store named in
        subst (λ (fit : Result ⊤ Refusal). Alike B n (instantiate exec depth v d imports)
        (by_checks exec depth (twin B v) d imports fit)) (sym c.1)
        (by_checks_alike d imports v (imports_fit v.machine d imports) c.0 b)
