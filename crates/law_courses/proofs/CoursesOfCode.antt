-- A run beside another: instructions, and all code.
use Rattle.std.proofs.Common.{◌≡◌, ℕ, zero, suc, List, [], ◌∷◌, Option, Some, None, refl, sym, ap, ◌∙◌, subst, inl, inr, arith}
use Rattle.std.specs.Prelude.{Bool, true, false, ◌++◌, ◌==◌, ◌-◌, ◌*◌, ◌^◌, length, reverse, if◌then◌else◌, slice_get}
use Rattle.std.proofs.lemmas.List.{reverse-append}
use Rattle.wasm_types.specs.Each.{Each}
use Rattle.wasm_types.specs.FunctionParts.{params, results}
use Rattle.wasm_types.specs.Matching.{matches}
use Rattle.wasm_types.specs.MemoryTypes.{page_size}
use Rattle.wasm_types.specs.Signatures.{Signature}
use Rattle.wasm_syntax.specs.declared.declarations.Block.{Block}
use Rattle.wasm_syntax.specs.declared.instr.Instr.{Instr}
use Rattle.wasm_syntax.specs.declared.instr.Instr.TheVariants as i
use Rattle.wasm_values.specs.declared.refusals.Refusal.TheVariants as refusal
use Rattle.wasm_values.specs.declared.refusals.Trap.TheVariants as trap
use Rattle.wasm_objects.specs.Growth.{longer_memory, longer_table}
use Rattle.wasm_objects.specs.declared.raw.RawRef.{RawRef}
use Rattle.wasm_objects.specs.declared.raw.RawRef.TheVariants as r
use Rattle.wasm_objects.specs.declared.raw.RawVal.{RawVal}
use Rattle.spec_machine.specs.Changes.{set_memory, set_table, charge}
use Rattle.spec_machine.specs.Growth.{Decision, Granted, Failed, Faulted, Plan}
use Rattle.spec_machine.specs.Machine.{Machine}
use Rattle.spec_machine.specs.Values.{function_type}
use Rattle.law_store.proofs.Lists.{each_none, each_more, each_append}
use Rattle.spec_execution.specs.Bodies.{with_operands, Exit, exit, after, inside, block, loop_exit, iterate, branch_if, target, back, call, callee, element, signed_by, call_indirect, grown, grow, memory_grow, table_grow, then_run, one, where_bulk, instruction, at_once, list, step, exec}
use Rattle.spec_execution.specs.Checks.{check}
use Rattle.spec_execution.specs.Costs.{is_bulk, cost}
use Rattle.spec_execution.specs.Entering.{Frame, Code, Run, Again, Step}
use Rattle.spec_execution.specs.Operands as on
use Rattle.spec_execution.specs.Outcomes.{World, State, state, Outcome, Values, Branch, Return, Over, Trapped, Refused, Stuck, spend}
use Rattle.spec_execution.specs.Straight.{Effect, Goes, Traps, Sticks, act}
use Rattle.spec_execution.proofs.EquationLemmas.{exec_is}
use Rattle.spec_execution.proofs.WaysOfCode.{memory_plan, table_plan}
use Rattle.law_courses.proofs.Bounds.{Bounds, AreHeld, IsEffectIn, effect_in, reference, Turns}
use Rattle.law_courses.proofs.Courses.{twin, twin_state, Inside, Below, Holds, Matches, Alike, code_ends, below_in, looser, values, branch, «return», over, on_operands, one_of, spend_alike, found, found_in, i32, reference_in, front, function, memory, table}
use Rattle.law_courses.proofs.CoursesOfCalls.{IsReady, Keeps, enter_alike}
use Rattle.law_courses.proofs.CoursesOfChecks.{Onward, decide_alike, on_fuel_alike, check_alike}
use Rattle.law_courses.proofs.CoursesOfHosts.{step_alike}
use Rattle.law_courses.proofs.StrayLemmas.{after_lost, back_lost}

each_reverse : {A : Type 0} (P : A → Type 0) (xs : List A) → Each xs P → Each (reverse xs) P
each_reverse P [] h = h
each_reverse P (x ∷ xs) h =
    subst (λ ys. Each ys P) (sym (reverse-append (x ∷ []) xs))
    (each_append P (reverse xs) (x ∷ []) (each_reverse P xs (λ n y e. h (suc n) y e))
    (each_more P x [] (h 0 x refl) (each_none P)))

module _ (B : Bounds) (T : Turns B) (n : ℕ) where
  branch_if_alike :
      (x l : ℕ) (s : State) (go go' : State → Outcome) → Holds B n s → Alike B n (go s) (go' (twin_state B s))
      → Alike B n (branch_if x l s go) (branch_if x l (twin_state B s) go')
  branch_if_alike zero l s go go' b h = h
  branch_if_alike (suc x) l s go go' b h = branch B n l s b

  callee_alike :
      (x : RawRef) (s : State) (go go' : ℕ → Outcome) → B.IsHeld (reference x) → Inside B s.world
      → ((f : ℕ) → B.IsCallee f → Alike B n (go f) (go' f))
      → Alike B n (callee x s go) (callee x (twin_state B s) go')
  callee_alike r.Null s go go' k b h = over B n (Trapped trap.IndirectCallToNull) s.world b
  callee_alike (r.Func f) s go go' k b h = h f (T.callee_held f k)
  callee_alike x s go go' k b h = over B n Stuck s.world b

  element_alike :
      (x : Option RawRef) (s : State) (go go' : RawRef → Outcome) → Inside B s.world
      → ((y : RawRef) → x ≡ Some y → Alike B n (go y) (go' y))
      → Alike B n (element x s go) (element x (twin_state B s) go')
  element_alike None s go go' b h = over B n (Trapped trap.TableOutOfBounds) s.world b
  element_alike (Some y) s go go' b h = h y refl

  signed_by_alike :
      (own own' : Option Signature) (wanted : Signature) (s : State) (o o' : Outcome) → own' ≡ own → Inside B s.world
      → Alike B n o o' → Alike B n (signed_by own wanted s o) (signed_by own' wanted (twin_state B s) o')
  signed_by_alike own own' wanted s o o' e b h =
      subst (λ (x : Option Signature). Alike B n (signed_by own wanted s o) (signed_by x wanted (twin_state B s) o'))
      (sym e) (by own)
    where
      by : (x : Option Signature) → Alike B n (signed_by x wanted s o) (signed_by x wanted (twin_state B s) o')
      by None = over B n Stuck s.world b
      by (Some t) =
          one_of B T (code_ends B n) (matches t wanted) _ _ _ _ h (over B n (Trapped trap.BadSignature) s.world b)

  -- ---- code that stands behind a turn

  module _ (keeps : Keeps B n) where
    -- ---- blocks

    after_match :
        (next : Code) (e : Exit) (below : List RawVal) (o o' : Outcome) → IsReady B next → IsReady B e.target
        → AreHeld B below → Matches B n o o' → Alike B n (after exec next e below o) (after exec next e below o')
    after_match next e below (Values s) o' ready to held h =
        subst (λ (x : Outcome). Alike B n (after exec next e below (Values s)) (after exec next e below x)) (sym h.0)
        (keeps.by next (with_operands s (s.operands ++ below)) ready
        (on_operands B n s (s.operands ++ below) h.1 (each_append B.IsHeld s.operands below h.1.operands held)))
    after_match next e below (Branch zero s) o' ready to held h =
        subst (λ (x : Outcome). Alike B n (after exec next e below (Branch zero s)) (after exec next e below x)) (sym h.0)
        (front B T n s.world h.1.world.held e.arity s.operands _ _ h.1.operands
        (λ carried rest hc hr. keeps.by e.target (with_operands s (carried ++ below)) to
        (on_operands B n s (carried ++ below) h.1 (each_append B.IsHeld carried below hc held))))
    after_match next e below (Branch (suc l) s) o' ready to held h =
        record { by = inl (ap (after exec next e below) h.0, h.1) }
    after_match next e below (Return s) o' ready to held h = record { by = inl (ap (after exec next e below) h.0, h.1) }
    after_match next e below (Over end v) o' ready to held h = record { by = inl (ap (after exec next e below) h.0, h.1) }

    after_alike :
        (next : Code) (e : Exit) (below : List RawVal) (o o' : Outcome) → IsReady B next → IsReady B e.target
        → AreHeld B below → Alike B n o o' → Alike B n (after exec next e below o) (after exec next e below o')
    after_alike next e below o o' ready to held h =
        elim h.by [
          | inl k ↦ after_match next e below o o' ready to held k
          | inr k ↦ record { by = inr (after_lost B T next e below o k) }
        ]

    module _ (m : ℕ) where
      -- the inner code may take the turn
      abbrev Inner : (State → Outcome) → (State → Outcome) → Type 0
      Inner go go' = (s : State) → Holds B m s → Alike B n (go s) (go' (twin_state B s))

      inside_alike :
          (next : Code) (e : Exit) (t : Signature) (s : State) (inner inner' : State → Outcome) → IsReady B next
          → IsReady B e.target → Inner inner inner' → Holds B m s
          → Alike B n (inside exec next e t s inner) (inside exec next e t (twin_state B s) inner')
      inside_alike next e t s inner inner' ready to j b =
          front B T n s.world b.world.held (length (params t)) s.operands _ _ b.operands
          (λ own below ho hb. after_alike next e below _ _ ready to hb
          (j (with_operands s own) (on_operands B m s own b ho)))

      iterate_alike :
          (fr : Frame) (k : ℕ) (is : List Instr) (s : State) (inner inner' : Block → State → Outcome)
          → B.IsHome fr.instance → ((body : Block) → Inner (inner body) (inner' body)) → Holds B m s
          → Alike B n (iterate exec fr k is s inner) (iterate exec fr k is (twin_state B s) inner')
      iterate_alike fr k is s inner inner' home j b =
          found B T n s.world b.world.held (slice_get fr.function.blocks k) _ _ (λ body e.
          found B T n s.world b.world.held (slice_get fr.decl.types body.ty) _ _ (λ t e'.
          inside_alike (Run fr is) (loop_exit fr k is t) t s
          (λ own. check own.world (λ w. inner body (record own { world = w })))
          (λ own. check own.world (λ w. inner' body (record own { world = w }))) home home
          (λ own c. check_alike B T n m own.world _ _
          (λ v d. j body (record own { world = v })
          (record { world = d; locals = c.locals; operands = c.operands })) c.world) b))

    block_alike :
        (fr : Frame) (k : ℕ) (is : List Instr) (s : State) → B.IsHome fr.instance → Holds B n s
        → Alike B n (block exec fr k is s) (block exec fr k is (twin_state B s))
    block_alike fr k is s home b =
        found B T n s.world b.world.held (slice_get fr.function.blocks k) _ _ (λ body e.
        found B T n s.world b.world.held (slice_get fr.decl.types body.ty) _ _ (λ t e'.
        inside_alike n (Run fr is) (exit (length (results t)) (Run fr is)) t s (exec (Run fr body.instrs))
        (exec (Run fr body.instrs)) home home (λ u c. keeps.by (Run fr body.instrs) u home c) b))

    -- ---- calls

    back_match :
        (next : Code) (locals below : List RawVal) (o o' : Outcome) → IsReady B next → AreHeld B locals
        → AreHeld B below → Matches B n o o' → Alike B n (back exec next locals below o) (back exec next locals below o')
    back_match next locals below (Values s) o' ready hl hb h =
        subst (λ (x : Outcome). Alike B n (back exec next locals below (Values s)) (back exec next locals below x))
        (sym h.0)
        (keeps.by next (state s.world locals (s.operands ++ below)) ready
        (record {
          world = h.1.world;
          locals = hl;
          operands = each_append B.IsHeld s.operands below h.1.operands hb;
        }))
    back_match next locals below (Branch l s) o' ready hl hb h =
        record { by = inl (ap (back exec next locals below) h.0, h.1.world.held) }
    back_match next locals below (Return s) o' ready hl hb h =
        record { by = inl (ap (back exec next locals below) h.0, h.1.world.held) }
    back_match next locals below (Over e v) o' ready hl hb h =
        record { by = inl (ap (back exec next locals below) h.0, h.1) }

    back_alike :
        (next : Code) (locals below : List RawVal) (o o' : Outcome) → IsReady B next → AreHeld B locals
        → AreHeld B below → Alike B n o o' → Alike B n (back exec next locals below o) (back exec next locals below o')
    back_alike next locals below o o' ready hl hb h =
        elim h.by [
          | inl k ↦ back_match next locals below o o' ready hl hb k
          | inr k ↦ record { by = inr (back_lost B T next locals below o k) }
        ]

    call_alike :
        (fr : Frame) (is : List Instr) (s : State) (k : ℕ) → B.IsHome fr.instance → B.IsCallee k → Holds B n s
        → Alike B n (call exec fr is s k) (call exec fr is (twin_state B s) k)
    call_alike fr is s k home may b =
        found_in B T n s.world b.world.held (function_type s.world.machine k) _ _ _
        (T.type_is s.world.machine k b.world.held.store may) (λ t e.
        front B T n s.world b.world.held (length (params t)) s.operands _ _ b.operands (λ own below ho hb.
        back_alike (Run fr is) s.locals below _ _ home b.locals hb
        (enter_alike B T n keeps fr.depth k (reverse own) (Some fr.instance) s.world may
        (each_reverse B.IsHeld own ho) home b.world)))

    call_indirect_alike :
        (fr : Frame) (ty k : ℕ) (is : List Instr) (s : State) → B.IsHome fr.instance → Holds B n s
        → Alike B n (call_indirect exec fr ty k is s) (call_indirect exec fr ty k is (twin_state B s))
    call_indirect_alike fr ty k is s home b =
        i32 B T n s.world b.world.held s.operands _ _ b.operands (λ at rest hr.
        found B T n s.world b.world.held (slice_get fr.decl.types ty) _ _ (λ wanted e.
        table B T n s.world b.world.held fr.instance home k _ _ (λ p x y e1 e2 e3.
        element_alike (slice_get y.elements at) (with_operands s rest) _ _ b.world.held (λ z e4.
        callee_alike z (with_operands s rest) _ _
        (T.element_held s.world.machine fr.instance k x at p y z b.world.held.store home e1 e2 e3 e4) b.world.held
        (λ fn may.
        signed_by_alike (function_type s.world.machine fn) (function_type (B.other s.world.machine) fn) wanted
        (with_operands s rest) _ _ (T.type_is s.world.machine fn b.world.held.store may) b.world.held
        (call_alike fr is (with_operands s rest) fn home may (on_operands B n s rest b hr)))))))

    -- ---- instructions

    then_run_alike :
        (next : Code) (s : State) (e e' : Effect) → IsReady B next → Holds B n s → IsEffectIn B e
        → e' ≡ effect_in B.other e → Alike B n (then_run exec next s e) (then_run exec next (twin_state B s) e')
    then_run_alike next s e e' ready b k p =
        subst (λ (x : Effect). Alike B n (then_run exec next s e) (then_run exec next (twin_state B s) x)) (sym p)
        (by e k)
      where
        by : (x : Effect) → IsEffectIn B x
            → Alike B n (then_run exec next s x) (then_run exec next (twin_state B s) (effect_in B.other x))
        by (Goes m locals operands) h =
            keeps.by next (state (record s.world { machine = m }) locals operands) ready
            (record { world = below_in B T n s.world m h.0 b.world; locals = h.1; operands = h.2 })
        by (Traps t) h = over B n (Trapped t) s.world b.world.held
        by Sticks h = over B n Stuck s.world b.world.held

    one_alike :
        (fr : Frame) (j : Instr) (is : List Instr) (s : State) → B.IsHome fr.instance → Holds B n s
        → Alike B n (one exec fr j is s) (one exec fr j is (twin_state B s))
    one_alike fr i.Unreachable is s home b = over B n (Trapped trap.UnreachableCodeReached) s.world b.world.held
    one_alike fr (i.Block k) is s home b = block_alike fr k is s home b
    one_alike fr (i.Loop k) is s home b =
        iterate_alike n fr k is s (λ body. exec (Run fr body.instrs)) (λ body. exec (Run fr body.instrs)) home
        (λ body u c. keeps.by (Run fr body.instrs) u home c) b
    one_alike fr (i.If k l) is s home b =
        i32 B T n s.world b.world.held s.operands _ _ b.operands
        (λ x rest h. block_alike fr (if x == 0 then l else k) is (with_operands s rest) home (on_operands B n s rest b h))
    one_alike fr (i.Br l) is s home b = branch B n l s b
    one_alike fr (i.BrIf l) is s home b =
        i32 B T n s.world b.world.held s.operands _ _ b.operands (λ x rest h.
        branch_if_alike x l (with_operands s rest) _ _ (on_operands B n s rest b h)
        (keeps.by (Run fr is) (with_operands s rest) home (on_operands B n s rest b h)))
    one_alike fr (i.BrTable k) is s home b =
        i32 B T n s.world b.world.held s.operands _ _ b.operands (λ x rest h.
        found B T n s.world b.world.held (slice_get fr.function.targets k) _ _ (λ labels e.
        found B T n s.world b.world.held (target labels x) _ _
        (λ l e'. branch B n l (with_operands s rest) (on_operands B n s rest b h))))
    one_alike fr i.Return is s home b = «return» B n s b
    one_alike fr (i.Call k) is s home b =
        function B T n s.world b.world.held fr.instance home k _ _ (λ fn may. call_alike fr is s fn home may b)
    one_alike fr (i.CallIndirect ty k) is s home b = call_indirect_alike fr ty k is s home b
    one_alike fr j is s home b =
        let t = T.acts s.world.machine fr.instance s.locals s.operands j b.world.held.store home b.locals b.operands in
        then_run_alike (Run fr is) s (act fr.instance s.world.machine s.locals j s.operands)
        (act fr.instance (B.other s.world.machine) s.locals j s.operands) home b t.0 t.1

    -- ---- growth, whose question comes before the turn of the instruction

    grown_alike :
        (next : Code) (s : State) (p : Plan ℕ) (q : Machine) → IsReady B next → Holds B (suc n) s → B.IsIn p.after
        → q ≡ B.other p.after → (d : Decision) (v : World) → Below B (suc n) v
        → Alike B n (grown exec next s p d v) (grown exec next (twin_state B s) (record p { after = q }) d (twin B v))
    grown_alike next s p q ready h k e Granted v b =
        let c = T.charges p.after 1 k in
        let size : Machine → World → State =
        λ x u. state (record u { machine = charge x 1 }) s.locals (on.integer 32 p.gives ∷ s.operands) in
        spend_alike B T n n 1 v (λ u. exec next (size p.after u)) (λ u. exec next (size q u)) b (λ u d.
        subst (λ (x : Machine). Alike B n
        (exec next (state (record u { machine = charge p.after 1 }) s.locals (on.integer 32 p.gives ∷ s.operands)))
        (exec next (state (record u { machine = x }) s.locals (on.integer 32 p.gives ∷ s.operands))))
        (sym (ap (λ (y : Machine). charge y 1) e ∙ c.1))
        (keeps.by next (state (record u { machine = charge p.after 1 }) s.locals (on.integer 32 p.gives ∷ s.operands))
        ready
        (record {
          world = below_in B T n u (charge p.after 1) c.0 d;
          locals = h.locals;
          operands = each_more B.IsHeld _ s.operands (T.number_held 32 p.gives) h.operands;
        })))
    grown_alike next s p q ready h k e Failed v b =
        let denied : World → State = λ u. state u s.locals (on.integer 32 (2 ^ 32 - 1) ∷ s.operands) in
        spend_alike B T n n 1 v (λ u. exec next (denied u)) (λ u. exec next (denied u)) b (λ u d.
        keeps.by next (state u s.locals (on.integer 32 (2 ^ 32 - 1) ∷ s.operands)) ready
        (record {
          world = d;
          locals = h.locals;
          operands = each_more B.IsHeld _ s.operands (T.number_held 32 (2 ^ 32 - 1)) h.operands;
        }))
    grown_alike next s p q ready h k e Faulted v b = over B n (Refused refusal.LimiterFault) v b.held

    grow_alike :
        (next : Code) (s : State) (p : Plan ℕ) (q : Machine) → IsReady B next → Holds B (suc n) s → B.IsIn p.after
        → q ≡ B.other p.after
        → Alike B n (grow exec next s p) (grow exec next (twin_state B s) (record p { after = q }))
    grow_alike next s p q ready h k e =
        decide_alike B T (code_ends B n) (suc n) s.world p q (grown exec next s p)
        (grown exec next (twin_state B s) (record p { after = q })) (grown_alike next s p q ready h k e) h.world

    memory_grow_alike :
        (fr : Frame) (k : ℕ) (is : List Instr) (s : State) → B.IsHome fr.instance → Holds B (suc n) s
        → Alike B n (memory_grow exec fr k is s) (memory_grow exec fr k is (twin_state B s))
    memory_grow_alike fr k is s home b =
        i32 B T n s.world b.world.held s.operands _ _ b.operands (λ delta rest h.
        memory B T n s.world b.world.held fr.instance home k _ _ (λ p x y e1 e2 e3.
        let t = T.memory_grows s.world.machine fr.instance k x delta p y b.world.held.store home e1 e2 e3 in
        grow_alike (Run fr is) (with_operands s rest) (memory_plan s.world.machine x y delta)
        (set_memory (B.other s.world.machine) x (longer_memory y (delta * page_size y.ty))) home
        (on_operands B (suc n) s rest b h) t.0 t.1))

    table_grow_alike :
        (fr : Frame) (k : ℕ) (is : List Instr) (s : State) → B.IsHome fr.instance → Holds B (suc n) s
        → Alike B n (table_grow exec fr k is s) (table_grow exec fr k is (twin_state B s))
    table_grow_alike fr k is s home b =
        i32 B T n s.world b.world.held s.operands _ _ b.operands (λ delta rest1 h1.
        reference_in B T n s.world b.world.held rest1 _ _ h1 (λ y rest hy h.
        table B T n s.world b.world.held fr.instance home k _ _ (λ p x z e1 e2 e3.
        let t = T.table_grows s.world.machine fr.instance k x delta p z y b.world.held.store home e1 e2 e3 hy in
        grow_alike (Run fr is) (with_operands s rest) (table_plan s.world.machine x z delta y)
        (set_table (B.other s.world.machine) x (longer_table z delta y)) home
        (on_operands B (suc n) s rest b h) t.0 t.1)))

    -- ---- code that takes a turn

    abbrev spend_one : Frame → Instr → List Instr → State → World → Outcome
    spend_one fr j is s w = spend (cost j s.operands) w (λ v. one exec fr j is (record s { world = v }))

    spend_one_alike :
        (fr : Frame) (j : Instr) (is : List Instr) (s : State) → B.IsHome fr.instance → Holds B (suc n) s
        → Onward B T n (suc n) (spend_one fr j is s) (spend_one fr j is (twin_state B s))
    spend_one_alike fr j is s home b w d =
        spend_alike B T n n (cost j s.operands) w (λ v. one exec fr j is (record s { world = v }))
        (λ v. one exec fr j is (record (twin_state B s) { world = v })) d
        (λ v c. one_alike fr j is (record s { world = v }) home
        (record { world = c; locals = b.locals; operands = b.operands }))

    -- the fuel is tested before a bulk form
    where_bulk_alike :
        (bulk : Bool) (v : World) (go go' : World → Outcome) → Onward B T n (suc n) go go' → Below B (suc n) v
        → Alike B n (where_bulk bulk v go) (where_bulk bulk (twin B v) go')
    where_bulk_alike true v go go' j b = on_fuel_alike B T n (suc n) v go go' j b
    where_bulk_alike false v go go' j b = j v b

    instruction_alike :
        (fr : Frame) (j : Instr) (is : List Instr) (s : State) → B.IsHome fr.instance → Holds B (suc n) s
        → Alike B n (instruction exec fr j is s) (instruction exec fr j is (twin_state B s))
    instruction_alike fr (i.MemoryGrow k) is s home b = memory_grow_alike fr k is s home b
    instruction_alike fr (i.TableGrow k) is s home b = table_grow_alike fr k is s home b
    instruction_alike fr j is s home b =
        where_bulk_alike (is_bulk j) s.world (spend_one fr j is s) (spend_one fr j is (twin_state B s))
        (spend_one_alike fr j is s home b) b.world

    at_once_alike :
        (fr : Frame) (is : List Instr) (s : State) → B.IsHome fr.instance → Holds B (suc n) s
        → Alike B n (at_once exec fr is s) (at_once exec fr is (twin_state B s))
    at_once_alike fr [] s home b = over B n Stuck s.world b.world.held
    at_once_alike fr (j ∷ is) s home b = instruction_alike fr j is s home b

    list_alike :
        (fr : Frame) (is : List Instr) (s : State) → B.IsHome fr.instance → Holds B (suc n) s
        → Alike B (suc n) (list exec fr is s) (list exec fr is (twin_state B s))
    list_alike fr [] s home b = values B (suc n) s b
    list_alike fr (j ∷ is) s home b = looser B n (suc n) _ _ (omega arith) (instruction_alike fr j is s home b)

    code_alike :
        (c : Code) (s : State) → IsReady B c → Holds B (suc n) s
        → Alike B (suc n) (step exec c s) (step exec c (twin_state B s))
    unfolding step
    code_alike (Run fr is) s home b = list_alike fr is s home b
    code_alike (Again fr k is) s home b =
        looser B n (suc n) _ _ (omega arith)
        (iterate_alike (suc n) fr k is s (λ body. at_once exec fr body.instrs) (λ body. at_once exec fr body.instrs) home
        (λ body u c. at_once_alike fr body.instrs u home c) b)
    code_alike (Step a ev) s open_ b =
        looser B n (suc n) _ _ (omega arith) (step_alike B T n keeps a ev s.world open_ b.world)

    next_keeps : Keeps B (suc n)
    next_keeps = record {
      by = λ c s ready b.
          subst (λ (o : Outcome). Alike B (suc n) o (exec c (twin_state B s))) (sym (exec_is c s))
          (subst (λ (o : Outcome). Alike B (suc n) (step exec c s) o) (sym (exec_is c (twin_state B s)))
          (code_alike c s ready b));
    }

-- all code keeps to the way, since each of its turns does
module _ (B : Bounds) (T : Turns B) where
  pub exec_keeps : (n : ℕ) → Keeps B n
  exec_keeps zero = record { by = λ c s ready b. absurd (omega (arith, b.world.fewer)) }
  exec_keeps (suc n) = next_keeps B T n (exec_keeps n)
