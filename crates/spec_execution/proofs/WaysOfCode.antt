-- Two runs side by side: instructions, and all code.
use Rattle.std.proofs.Common.{ℕ, zero, suc, List, [], ◌∷◌, Option, Some, None, sym, ap, subst, arith}
use Rattle.std.specs.Prelude.{Bool, true, false, ◌++◌, ◌==◌, ◌-◌, ◌*◌, ◌^◌, length, reverse, if◌then◌else◌, slice_get}
use Rattle.wasm_types.specs.FunctionParts.{params, results}
use Rattle.wasm_types.specs.Matching.{matches}
use Rattle.wasm_types.specs.Memories.{Memory}
use Rattle.wasm_types.specs.MemoryTypes.{page_size}
use Rattle.wasm_types.specs.Signatures.{Signature}
use Rattle.wasm_syntax.specs.declared.declarations.Block.{Block}
use Rattle.wasm_syntax.specs.declared.instr.Instr.{Instr}
use Rattle.wasm_syntax.specs.declared.instr.Instr.TheVariants as i
use Rattle.wasm_values.specs.declared.refusals.Refusal.TheVariants as refusal
use Rattle.wasm_values.specs.declared.refusals.Trap.TheVariants as trap
use Rattle.wasm_objects.specs.Growth.{longer_memory, longer_table}
use Rattle.wasm_objects.specs.Tables.{Table}
use Rattle.wasm_objects.specs.declared.raw.RawRef.{RawRef}
use Rattle.wasm_objects.specs.declared.raw.RawRef.TheVariants as r
use Rattle.wasm_objects.specs.declared.raw.RawVal.{RawVal}
use Rattle.spec_machine.specs.Changes.{set_memory, set_table, charge}
use Rattle.spec_machine.specs.Growth.{Decision, Granted, Failed, Faulted, Plan, plan, memory_range, table_range, memory_growing, table_growing, pages}
use Rattle.spec_machine.specs.Machine.{Machine}
use Rattle.spec_machine.specs.Values.{function_type}
use Rattle.spec_execution.specs.Bodies.{with_operands, Exit, exit, after, inside, block, loop_exit, iterate, branch_if, target, back, call, callee, element, signed_by, call_indirect, grown, grow, memory_grow, table_grow, then_run, one, where_bulk, instruction, at_once, list, step}
use Rattle.spec_execution.specs.Checks.{check}
use Rattle.spec_execution.specs.Costs.{is_bulk, cost}
use Rattle.spec_execution.specs.Entering.{Frame, Code, Run, Again, Step, Exec}
use Rattle.spec_execution.specs.Operands as on
use Rattle.spec_execution.specs.Outcomes.{World, State, state, Outcome, Values, Branch, Return, Over, Trapped, Refused, Stuck, spend}
use Rattle.spec_execution.specs.Straight.{Effect, Goes, Traps, Sticks, act}
use Rattle.spec_execution.proofs.Ways.{Way, shift, shifted, Below, Alike, Fits, code_ends, below_changed, looser_to, values, branch, «return», over, either, spend_alike, found, i32, reference, front, function, memory, table}
use Rattle.spec_execution.proofs.WaysOfChecks.{decide_alike, on_fuel_alike, check_alike}
use Rattle.spec_execution.proofs.WaysOfCalls.{enter_alike}
use Rattle.spec_execution.proofs.WaysOfHosts.{step_alike}

-- the growth of a memory, and of a table, by a guest
abbrev pub memory_plan : Machine → ℕ → Memory → ℕ → Plan ℕ
memory_plan m n x delta =
    plan (memory_range x.ty) (memory_growing x.ty (pages x) delta)
    (set_memory m n (longer_memory x (delta * page_size x.ty))) (pages x)

abbrev pub table_plan : Machine → ℕ → Table → ℕ → RawRef → Plan ℕ
table_plan m n x delta y =
    plan table_range (table_growing x.ty (length x.elements) delta)
    (set_table m n (longer_table x delta y)) (length x.elements)

module _ (W : Way) (n : ℕ) where
  branch_if_alike :
      (x l : ℕ) (s : State) (go go' : State → Outcome) → Below W n s.world → Alike W n (go s) (go' (shifted W s))
      → Alike W n (branch_if x l s go) (branch_if x l (shifted W s) go')
  branch_if_alike zero l s go go' b h = h
  branch_if_alike (suc x) l s go go' b h = branch W n l s b

  callee_alike :
      (x : RawRef) (s : State) (go go' : ℕ → Outcome) → Below W n s.world → ((f : ℕ) → Alike W n (go f) (go' f))
      → Alike W n (callee x s go) (callee x (shifted W s) go')
  callee_alike r.Null s go go' b h = over W n (Trapped trap.IndirectCallToNull) s.world b.held
  callee_alike (r.Func f) s go go' b h = h f
  callee_alike x s go go' b h = over W n Stuck s.world b.held

  element_alike :
      (x : Option RawRef) (s : State) (go go' : RawRef → Outcome) → Below W n s.world
      → ((y : RawRef) → Alike W n (go y) (go' y)) → Alike W n (element x s go) (element x (shifted W s) go')
  element_alike None s go go' b h = over W n (Trapped trap.TableOutOfBounds) s.world b.held
  element_alike (Some y) s go go' b h = h y

  signed_by_alike :
      (own : Option Signature) (wanted : Signature) (s : State) (o o' : Outcome) → Below W n s.world → Alike W n o o'
      → Alike W n (signed_by own wanted s o) (signed_by own wanted (shifted W s) o')
  signed_by_alike None wanted s o o' b h = over W n Stuck s.world b.held
  signed_by_alike (Some own) wanted s o o' b h =
      either W n (matches own wanted) _ _ _ _ h (over W n (Trapped trap.BadSignature) s.world b.held)

  -- ---- code that stands behind a turn

  module _ (f g : Exec) (all : (V : Way) → Fits V n f g) where
    abbrev fits : Fits W n f g
    fits = all W

    -- ---- blocks

    after_alike :
        (next : Code) (e : Exit) (below : List RawVal) (o o' : Outcome) → Alike W n o o'
        → Alike W n (after f next e below o) (after g next e below o')
    after_alike next e below (Values s) o' h =
        subst (λ (x : Outcome). Alike W n (after f next e below (Values s)) (after g next e below x)) (sym h.by.0)
        (fits.by next (with_operands s (s.operands ++ below)) h.by.1)
    after_alike next e below (Branch zero s) o' h =
        subst (λ (x : Outcome). Alike W n (after f next e below (Branch zero s)) (after g next e below x)) (sym h.by.0)
        (front W n s.world h.by.1.held e.arity s.operands _ _
        (λ carried rest. fits.by e.target (with_operands s (carried ++ below)) h.by.1))
    after_alike next e below (Branch (suc l) s) o' h = record { by = (ap (after g next e below) h.by.0, h.by.1) }
    after_alike next e below (Return s) o' h = record { by = (ap (after g next e below) h.by.0, h.by.1) }
    after_alike next e below (Over end w) o' h = record { by = (λ c. ap (after g next e below) (h.by.0 c), h.by.1) }

    module _ (m : ℕ) where
      -- the inner code may take the turn
      abbrev Inner : (State → Outcome) → (State → Outcome) → Type 0
      Inner go go' = (s : State) → Below W m s.world → Alike W n (go s) (go' (shifted W s))

      inside_alike :
          (next : Code) (e : Exit) (t : Signature) (s : State) (inner inner' : State → Outcome) → Inner inner inner'
          → Below W m s.world → Alike W n (inside f next e t s inner) (inside g next e t (shifted W s) inner')
      inside_alike next e t s inner inner' j b =
          front W n s.world b.held (length (params t)) s.operands _ _
          (λ own below. after_alike next e below _ _ (j (with_operands s own) b))

      iterate_alike :
          (fr : Frame) (k : ℕ) (is : List Instr) (s : State) (inner inner' : Block → State → Outcome)
          → ((body : Block) → Inner (inner body) (inner' body)) → Below W m s.world
          → Alike W n (iterate f fr k is s inner) (iterate g fr k is (shifted W s) inner')
      iterate_alike fr k is s inner inner' j b =
          found W n s.world b.held (slice_get fr.function.blocks k) _ _ (λ body.
          found W n s.world b.held (slice_get fr.decl.types body.ty) _ _ (λ t.
          inside_alike (Run fr is) (loop_exit fr k is t) t s
          (λ own. check own.world (λ w. inner body (record own { world = w })))
          (λ own. check own.world (λ w. inner' body (record own { world = w })))
          (λ own c. check_alike W n m own.world _ _ (λ v d. j body (record own { world = v }) d) c) b))

    block_alike :
        (fr : Frame) (k : ℕ) (is : List Instr) (s : State) → Below W n s.world
        → Alike W n (block f fr k is s) (block g fr k is (shifted W s))
    block_alike fr k is s b =
        found W n s.world b.held (slice_get fr.function.blocks k) _ _ (λ body.
        found W n s.world b.held (slice_get fr.decl.types body.ty) _ _ (λ t.
        inside_alike n (Run fr is) (exit (length (results t)) (Run fr is)) t s (f (Run fr body.instrs))
        (g (Run fr body.instrs))
        (fits.by (Run fr body.instrs)) b))

    -- ---- calls

    back_alike :
        (next : Code) (locals below : List RawVal) (o o' : Outcome) → Alike W n o o'
        → Alike W n (back f next locals below o) (back g next locals below o')
    back_alike next locals below (Values s) o' h =
        subst (λ (x : Outcome). Alike W n (back f next locals below (Values s)) (back g next locals below x))
        (sym h.by.0)
        (fits.by next (state s.world locals (s.operands ++ below)) h.by.1)
    back_alike next locals below (Branch l s) o' h =
        record { by = (λ _. ap (back g next locals below) h.by.0, h.by.1.held) }
    back_alike next locals below (Return s) o' h =
        record { by = (λ _. ap (back g next locals below) h.by.0, h.by.1.held) }
    back_alike next locals below (Over e w) o' h =
        record { by = (λ c. ap (back g next locals below) (h.by.0 c), h.by.1) }

    call_alike :
        (fr : Frame) (is : List Instr) (s : State) (k : ℕ) → Below W n s.world
        → Alike W n (call f fr is s k) (call g fr is (shifted W s) k)
    call_alike fr is s k b =
        found W n s.world b.held (function_type s.world.machine k) _ _ (λ t.
        front W n s.world b.held (length (params t)) s.operands _ _ (λ own below.
        back_alike (Run fr is) s.locals below _ _
        (enter_alike W n f g fits fr.depth k (reverse own) (Some fr.instance) s.world b)))

    call_indirect_alike :
        (fr : Frame) (ty k : ℕ) (is : List Instr) (s : State) → Below W n s.world
        → Alike W n (call_indirect f fr ty k is s) (call_indirect g fr ty k is (shifted W s))
    call_indirect_alike fr ty k is s b =
        i32 W n s.world b.held s.operands _ _ (λ at rest.
        found W n s.world b.held (slice_get fr.decl.types ty) _ _ (λ wanted.
        table W n s.world b.held s.world.machine fr.instance k _ _ (λ x y.
        element_alike (slice_get y.elements at) (with_operands s rest) _ _ b (λ z.
        callee_alike z (with_operands s rest) _ _ b (λ fn.
        signed_by_alike (function_type s.world.machine fn) wanted (with_operands s rest) _ _ b
        (call_alike fr is (with_operands s rest) fn b))))))

    -- ---- instructions

    then_run_alike :
        (next : Code) (s : State) (e : Effect) → Below W n s.world
        → Alike W n (then_run f next s e) (then_run g next (shifted W s) e)
    then_run_alike next s (Goes m locals operands) b =
        fits.by next (state (record s.world { machine = m }) locals operands) (below_changed W n s.world m b)
    then_run_alike next s (Traps t) b = over W n (Trapped t) s.world b.held
    then_run_alike next s Sticks b = over W n Stuck s.world b.held

    one_alike :
        (fr : Frame) (j : Instr) (is : List Instr) (s : State) → Below W n s.world
        → Alike W n (one f fr j is s) (one g fr j is (shifted W s))
    one_alike fr i.Unreachable is s b = over W n (Trapped trap.UnreachableCodeReached) s.world b.held
    one_alike fr (i.Block k) is s b = block_alike fr k is s b
    one_alike fr (i.Loop k) is s b =
        iterate_alike n fr k is s (λ body. f (Run fr body.instrs)) (λ body. g (Run fr body.instrs))
        (λ body. fits.by (Run fr body.instrs)) b
    one_alike fr (i.If k l) is s b =
        i32 W n s.world b.held s.operands _ _
        (λ x rest. block_alike fr (if x == 0 then l else k) is (with_operands s rest) b)
    one_alike fr (i.Br l) is s b = branch W n l s b
    one_alike fr (i.BrIf l) is s b =
        i32 W n s.world b.held s.operands _ _ (λ x rest.
        branch_if_alike x l (with_operands s rest) _ _ b (fits.by (Run fr is) (with_operands s rest) b))
    one_alike fr (i.BrTable k) is s b =
        i32 W n s.world b.held s.operands _ _ (λ x rest.
        found W n s.world b.held (slice_get fr.function.targets k) _ _ (λ labels.
        found W n s.world b.held (target labels x) _ _ (λ l. branch W n l (with_operands s rest) b)))
    one_alike fr i.Return is s b = «return» W n s b
    one_alike fr (i.Call k) is s b =
        function W n s.world b.held s.world.machine fr.instance k _ _ (λ fn. call_alike fr is s fn b)
    one_alike fr (i.CallIndirect ty k) is s b = call_indirect_alike fr ty k is s b
    one_alike fr j is s b =
        then_run_alike (Run fr is) s (act fr.instance s.world.machine s.locals j s.operands) b

    -- ---- growth, whose question comes before the turn of the instruction

    grown_alike :
        (next : Code) (s : State) (p : Plan ℕ) (d : Decision) (w : World) → Below W (suc n) w
        → Alike W n (grown f next s p d w) (grown g next (shifted W s) p d (shift W w))
    grown_alike next s p Granted w b =
        let granted : World → State =
        λ v. state (record v { machine = charge p.after 1 }) s.locals (on.integer 32 p.gives ∷ s.operands) in
        spend_alike W n n 1 w (λ v. f next (granted v)) (λ v. g next (granted v)) b (λ v c.
        fits.by next (granted v) (below_changed W n v (charge p.after 1) c))
    grown_alike next s p Failed w b =
        let denied : World → State = λ v. state v s.locals (on.integer 32 (2 ^ 32 - 1) ∷ s.operands) in
        spend_alike W n n 1 w (λ v. f next (denied v)) (λ v. g next (denied v)) b (λ v c. fits.by next (denied v) c)
    grown_alike next s p Faulted w b = over W n (Refused refusal.LimiterFault) w b.held

    grow_alike :
        (next : Code) (s : State) (p : Plan ℕ) → Below W (suc n) s.world
        → Alike W n (grow f next s p) (grow g next (shifted W s) p)
    grow_alike next s p b =
        decide_alike W (code_ends W n) (suc n) s.world p (grown f next s p) (grown g next (shifted W s) p)
        (grown_alike next s p) b

    memory_grow_alike :
        (fr : Frame) (k : ℕ) (is : List Instr) (s : State) → Below W (suc n) s.world
        → Alike W n (memory_grow f fr k is s) (memory_grow g fr k is (shifted W s))
    memory_grow_alike fr k is s b =
        i32 W n s.world b.held s.operands _ _ (λ delta rest.
        memory W n s.world b.held s.world.machine fr.instance k _ _ (λ x y.
        grow_alike (Run fr is) (with_operands s rest) (memory_plan s.world.machine x y delta) b))

    table_grow_alike :
        (fr : Frame) (k : ℕ) (is : List Instr) (s : State) → Below W (suc n) s.world
        → Alike W n (table_grow f fr k is s) (table_grow g fr k is (shifted W s))
    table_grow_alike fr k is s b =
        i32 W n s.world b.held s.operands _ _ (λ delta rest1. reference W n s.world b.held rest1 _ _ (λ y rest.
        table W n s.world b.held s.world.machine fr.instance k _ _ (λ x z.
        grow_alike (Run fr is) (with_operands s rest) (table_plan s.world.machine x z delta y) b)))

    -- ---- code that takes a turn

    abbrev spend_one : Exec → Frame → Instr → List Instr → State → World → Outcome
    spend_one e fr j is s w = spend (cost j s.operands) w (λ v. one e fr j is (record s { world = v }))

    spend_one_alike :
        (fr : Frame) (j : Instr) (is : List Instr) (s : State) (w : World) → Below W (suc n) w
        → Alike W n (spend_one f fr j is s w) (spend_one g fr j is (shifted W s) (shift W w))
    spend_one_alike fr j is s w b =
        spend_alike W n n (cost j s.operands) w (λ v. one f fr j is (record s { world = v }))
        (λ v. one g fr j is (record (shifted W s) { world = v })) b
        (λ v c. one_alike fr j is (record s { world = v }) c)

    -- the fuel is tested before a bulk form
    where_bulk_alike :
        (bulk : Bool) (w : World) (go go' : World → Outcome)
        → ((v : World) → Below W (suc n) v → Alike W n (go v) (go' (shift W v))) → Below W (suc n) w
        → Alike W n (where_bulk bulk w go) (where_bulk bulk (shift W w) go')
    where_bulk_alike true w go go' j b = on_fuel_alike W n (suc n) w go go' j b
    where_bulk_alike false w go go' j b = j w b

    instruction_alike :
        (fr : Frame) (j : Instr) (is : List Instr) (s : State) → Below W (suc n) s.world
        → Alike W n (instruction f fr j is s) (instruction g fr j is (shifted W s))
    instruction_alike fr (i.MemoryGrow k) is s b = memory_grow_alike fr k is s b
    instruction_alike fr (i.TableGrow k) is s b = table_grow_alike fr k is s b
    instruction_alike fr j is s b =
        where_bulk_alike (is_bulk j) s.world (spend_one f fr j is s) (spend_one g fr j is (shifted W s))
        (spend_one_alike fr j is s) b

    at_once_alike :
        (fr : Frame) (is : List Instr) (s : State) → Below W (suc n) s.world
        → Alike W n (at_once f fr is s) (at_once g fr is (shifted W s))
    at_once_alike fr [] s b = over W n Stuck s.world b.held
    at_once_alike fr (j ∷ is) s b = instruction_alike fr j is s b

    list_alike :
        (fr : Frame) (is : List Instr) (s : State) → Below W (suc n) s.world
        → Alike W (suc n) (list f fr is s) (list g fr is (shifted W s))
    list_alike fr [] s b = values W (suc n) s b
    list_alike fr (j ∷ is) s b = looser_to W n (suc n) _ _ (omega arith) (instruction_alike fr j is s b)

    code_alike :
        (c : Code) (s : State) → Below W (suc n) s.world → Alike W (suc n) (step f c s) (step g c (shifted W s))
    unfolding step
    code_alike (Run fr is) s b = list_alike fr is s b
    code_alike (Again fr k is) s b =
        looser_to W n (suc n) _ _ (omega arith)
        (iterate_alike (suc n) fr k is s (λ body. at_once f fr body.instrs) (λ body. at_once g fr body.instrs)
        (λ body. at_once_alike fr body.instrs) b)
    code_alike (Step a ev) s b =
        looser_to W n (suc n) _ _ (omega arith) (step_alike W n f g all a ev s.world b)

    pub step_fits : Fits W (suc n) (step f) (step g)
    step_fits = record { by = code_alike }
