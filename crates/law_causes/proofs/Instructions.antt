-- Instructions: one refuses only where its cause was heard.
use Rattle.std.proofs.Common.{ℕ, zero, suc, List, ◌∷◌, Option, Some, None}
use Rattle.std.specs.Prelude.{Bool, true, false, ◌++◌, ◌==◌, ◌-◌, ◌^◌, length, reverse, if◌then◌else◌, slice_get}
use Rattle.wasm_types.specs.FunctionParts.{params, results}
use Rattle.wasm_types.specs.Matching.{matches}
use Rattle.wasm_types.specs.Signatures.{Signature}
use Rattle.wasm_syntax.specs.declared.declarations.Block.{Block}
use Rattle.wasm_syntax.specs.declared.instr.Instr.{Instr}
use Rattle.wasm_syntax.specs.declared.instr.Instr.TheVariants as i
use Rattle.wasm_values.specs.declared.refusals.Refusal.TheVariants as refusal
use Rattle.wasm_values.specs.declared.refusals.Trap.TheVariants as trap
use Rattle.wasm_objects.specs.declared.raw.RawRef.{RawRef}
use Rattle.wasm_objects.specs.declared.raw.RawRef.TheVariants as r
use Rattle.wasm_objects.specs.declared.raw.RawVal.{RawVal}
use Rattle.spec_machine.specs.Changes.{charge}
use Rattle.spec_machine.specs.Growth.{Decision, Granted, Failed, Faulted, Plan}
use Rattle.spec_machine.specs.Values.{function_type}
use Rattle.spec_execution.specs.Askings.{Asking}
use Rattle.spec_execution.specs.Bodies.{with_operands, Exit, exit, after, inside, block, loop_exit, iterate, branch_if, target, back, call, callee, element, signed_by, call_indirect, grown, grow, memory_grow, table_grow, then_run, one, where_bulk, instruction}
use Rattle.spec_execution.specs.Checks.{check}
use Rattle.spec_execution.specs.Costs.{is_bulk, cost}
use Rattle.spec_execution.specs.Entering.{Frame, Code, Run, Exec}
use Rattle.spec_execution.specs.Operands as on
use Rattle.spec_execution.specs.Outcomes.{World, State, state, Outcome, Values, Branch, Return, Over, Trapped, Refused, Stuck, spend}
use Rattle.spec_execution.specs.Straight.{Effect, Goes, Traps, Sticks, act}
use Rattle.spec_execution.proofs.WaysOfCode.{memory_plan, table_plan}
use Rattle.law_causes.specs.Causes.{Reasons}
use Rattle.law_causes.proofs.Worlds.{Since, Ends, either, caused_since}
use Rattle.law_causes.proofs.Outcomes.{Keeps, Good, code_ends, branch_keeps, return_keeps, spend_keeps, found_keeps, i32_keeps, reference_keeps, front_keeps, function_keeps, memory_keeps, table_keeps}
use Rattle.law_causes.proofs.Checks.{Decided, decide_since, on_fuel_keeps, check_keeps}
use Rattle.law_causes.proofs.Functions.{enter_keeps}

module _ (B : List Asking) (reason : Reasons) where
  abbrev ends : Ends B Over reason (Keeps B reason)
  ends = code_ends B reason

  branch_if_keeps :
      (x l : ℕ) (s : State) (go : State → Outcome) → Since B s.world → Keeps B reason (go s)
      → Keeps B reason (branch_if x l s go)
  branch_if_keeps zero l s go h j = j
  branch_if_keeps (suc x) l s go h j = branch_keeps B reason l s h

  callee_keeps :
      (x : RawRef) (s : State) (go : ℕ → Outcome) → Since B s.world → ((f : ℕ) → Keeps B reason (go f))
      → Keeps B reason (callee x s go)
  callee_keeps r.Null s go h j = ends.by (Trapped trap.IndirectCallToNull) s.world h
  callee_keeps (r.Func f) s go h j = j f
  callee_keeps x s go h j = ends.by Stuck s.world h

  element_keeps :
      (x : Option RawRef) (s : State) (go : RawRef → Outcome) → Since B s.world
      → ((y : RawRef) → Keeps B reason (go y)) → Keeps B reason (element x s go)
  element_keeps None s go h j = ends.by (Trapped trap.TableOutOfBounds) s.world h
  element_keeps (Some y) s go h j = j y

  signed_by_keeps :
      (own : Option Signature) (wanted : Signature) (s : State) (o : Outcome) → Since B s.world
      → Keeps B reason o → Keeps B reason (signed_by own wanted s o)
  signed_by_keeps None wanted s o h j = ends.by Stuck s.world h
  signed_by_keeps (Some own) wanted s o h j =
      either B ends (matches own wanted) _ _ j (ends.by (Trapped trap.BadSignature) s.world h)

  module _ (f : Exec) (good : Good B reason f) where
    -- ---- blocks

    after_keeps :
        (next : Code) (e : Exit) (below : List RawVal) (o : Outcome) → Keeps B reason o
        → Keeps B reason (after f next e below o)
    after_keeps next e below (Values s) h = good.code next (with_operands s (s.operands ++ below)) h.by
    after_keeps next e below (Branch zero s) h =
        front_keeps B reason s.world h.by e.arity s.operands _
        (λ carried rest. good.code e.target (with_operands s (carried ++ below)) h.by)
    after_keeps next e below (Branch (suc l) s) h = record { by = h.by }
    after_keeps next e below (Return s) h = record { by = h.by }
    after_keeps next e below (Over end w) h = record { by = h.by }

    abbrev Inner : (State → Outcome) → Type 0
    Inner go = (s : State) → Since B s.world → Keeps B reason (go s)

    inside_keeps :
        (next : Code) (e : Exit) (t : Signature) (s : State) (inner : State → Outcome) → Inner inner
        → Since B s.world → Keeps B reason (inside f next e t s inner)
    inside_keeps next e t s inner j h =
        front_keeps B reason s.world h (length (params t)) s.operands _
        (λ own below. after_keeps next e below _ (j (with_operands s own) h))

    block_keeps :
        (fr : Frame) (k : ℕ) (is : List Instr) (s : State) → Since B s.world
        → Keeps B reason (block f fr k is s)
    block_keeps fr k is s h =
        found_keeps B reason s.world h (slice_get fr.function.blocks k) _ (λ body.
        found_keeps B reason s.world h (slice_get fr.decl.types body.ty) _ (λ t.
        inside_keeps (Run fr is) (exit (length (results t)) (Run fr is)) t s (f (Run fr body.instrs))
        (good.code (Run fr body.instrs)) h))

    pub iterate_keeps :
        (fr : Frame) (k : ℕ) (is : List Instr) (s : State) (inner : Block → State → Outcome)
        → ((body : Block) → Inner (inner body)) → Since B s.world → Keeps B reason (iterate f fr k is s inner)
    iterate_keeps fr k is s inner j h =
        found_keeps B reason s.world h (slice_get fr.function.blocks k) _ (λ body.
        found_keeps B reason s.world h (slice_get fr.decl.types body.ty) _ (λ t.
        inside_keeps (Run fr is) (loop_exit fr k is t) t s
        (λ own. check own.world (λ w. inner body (record own { world = w })))
        (λ own c. check_keeps B reason _ (λ v d. j body (record own { world = v }) d) own.world c) h))

    -- ---- calls

    back_keeps :
        (next : Code) (locals below : List RawVal) (o : Outcome) → Keeps B reason o
        → Keeps B reason (back f next locals below o)
    back_keeps next locals below (Values s) h = good.code next (state s.world locals (s.operands ++ below)) h.by
    back_keeps next locals below (Branch l s) h = ends.by Stuck s.world h.by
    back_keeps next locals below (Return s) h = ends.by Stuck s.world h.by
    back_keeps next locals below (Over e w) h = record { by = h.by }

    call_keeps :
        (fr : Frame) (is : List Instr) (s : State) (k : ℕ) → Since B s.world
        → Keeps B reason (call f fr is s k)
    call_keeps fr is s k h =
        found_keeps B reason s.world h (function_type s.world.machine k) _ (λ t.
        front_keeps B reason s.world h (length (params t)) s.operands _ (λ own below.
        back_keeps (Run fr is) s.locals below _
        (enter_keeps B reason f good fr.depth k (reverse own) (Some fr.instance) s.world h)))

    call_indirect_keeps :
        (fr : Frame) (ty k : ℕ) (is : List Instr) (s : State) → Since B s.world
        → Keeps B reason (call_indirect f fr ty k is s)
    call_indirect_keeps fr ty k is s h =
        i32_keeps B reason s.world h s.operands _ (λ at rest.
        found_keeps B reason s.world h (slice_get fr.decl.types ty) _ (λ wanted.
        table_keeps B reason s.world h s.world.machine fr.instance k _ (λ x y.
        element_keeps (slice_get y.elements at) (with_operands s rest) _ h (λ z.
        callee_keeps z (with_operands s rest) _ h (λ fn.
        signed_by_keeps (function_type s.world.machine fn) wanted (with_operands s rest) _ h
        (call_keeps fr is (with_operands s rest) fn h))))))

    -- ---- instructions

    then_run_keeps :
        (next : Code) (s : State) (e : Effect) → Since B s.world → Keeps B reason (then_run f next s e)
    then_run_keeps next s (Goes m locals operands) h =
        good.code next (state (record s.world { machine = m }) locals operands)
        (record { more = h.more; course = h.course })
    then_run_keeps next s (Traps t) h = ends.by (Trapped t) s.world h
    then_run_keeps next s Sticks h = ends.by Stuck s.world h

    one_keeps :
        (fr : Frame) (j : Instr) (is : List Instr) (s : State) → Since B s.world
        → Keeps B reason (one f fr j is s)
    one_keeps fr i.Unreachable is s h = ends.by (Trapped trap.UnreachableCodeReached) s.world h
    one_keeps fr (i.Block k) is s h = block_keeps fr k is s h
    one_keeps fr (i.Loop k) is s h =
        iterate_keeps fr k is s (λ body. f (Run fr body.instrs)) (λ body. good.code (Run fr body.instrs)) h
    one_keeps fr (i.If k l) is s h =
        i32_keeps B reason s.world h s.operands _
        (λ x rest. block_keeps fr (if x == 0 then l else k) is (with_operands s rest) h)
    one_keeps fr (i.Br l) is s h = branch_keeps B reason l s h
    one_keeps fr (i.BrIf l) is s h =
        i32_keeps B reason s.world h s.operands _ (λ x rest.
        branch_if_keeps x l (with_operands s rest) _ h (good.code (Run fr is) (with_operands s rest) h))
    one_keeps fr (i.BrTable k) is s h =
        i32_keeps B reason s.world h s.operands _ (λ x rest.
        found_keeps B reason s.world h (slice_get fr.function.targets k) _ (λ labels.
        found_keeps B reason s.world h (target labels x) _ (λ l. branch_keeps B reason l (with_operands s rest) h)))
    one_keeps fr i.Return is s h = return_keeps B reason s h
    one_keeps fr (i.Call k) is s h =
        function_keeps B reason s.world h s.world.machine fr.instance k _ (λ fn. call_keeps fr is s fn h)
    one_keeps fr (i.CallIndirect ty k) is s h = call_indirect_keeps fr ty k is s h
    one_keeps fr j is s h =
        then_run_keeps (Run fr is) s (act fr.instance s.world.machine s.locals j s.operands) h

    -- ---- growth, whose question comes before the turn of the instruction

    grown_keeps :
        (next : Code) (s : State) (p : Plan ℕ) (d : Decision) (w : World) → Decided B p d w
        → Keeps B reason (grown f next s p d w)
    grown_keeps next s p Granted w h =
        spend_keeps B reason 1 w _ h.by (λ v k.
        good.code next
        (state (record v { machine = charge p.after 1 }) s.locals (on.integer 32 p.gives ∷ s.operands))
        (record { more = k.more; course = k.course }))
    grown_keeps next s p Failed w h =
        spend_keeps B reason 1 w _ (caused_since B refusal.GrowFailed w h.by) (λ v k.
        good.code next (state v s.locals (on.integer 32 (2 ^ 32 - 1) ∷ s.operands)) k)
    grown_keeps next s p Faulted w h =
        ends.by (Refused refusal.LimiterFault) w
        (record { more = h.by.more; course = h.by.course; cause = h.by.cause })

    grow_keeps :
        (next : Code) (s : State) (p : Plan ℕ) → Since B s.world → Keeps B reason (grow f next s p)
    grow_keeps next s p h = decide_since B ends s.world h p (grown f next s p) (grown_keeps next s p)

    memory_grow_keeps :
        (fr : Frame) (k : ℕ) (is : List Instr) (s : State) → Since B s.world
        → Keeps B reason (memory_grow f fr k is s)
    memory_grow_keeps fr k is s h =
        i32_keeps B reason s.world h s.operands _ (λ delta rest.
        memory_keeps B reason s.world h s.world.machine fr.instance k _ (λ n x.
        grow_keeps (Run fr is) (with_operands s rest) (memory_plan s.world.machine n x delta) h))

    table_grow_keeps :
        (fr : Frame) (k : ℕ) (is : List Instr) (s : State) → Since B s.world
        → Keeps B reason (table_grow f fr k is s)
    table_grow_keeps fr k is s h =
        i32_keeps B reason s.world h s.operands _ (λ delta rest1. reference_keeps B reason s.world h rest1 _ (λ y rest.
        table_keeps B reason s.world h s.world.machine fr.instance k _ (λ n x.
        grow_keeps (Run fr is) (with_operands s rest) (table_plan s.world.machine n x delta y) h)))

    -- ---- an instruction, and then the rest

    -- the fuel is tested before a bulk form
    where_bulk_keeps :
        (bulk : Bool) (go : World → Outcome) → ((v : World) → Since B v → Keeps B reason (go v)) → (w : World)
        → Since B w → Keeps B reason (where_bulk bulk w go)
    where_bulk_keeps true go j w h = on_fuel_keeps B reason go j w h
    where_bulk_keeps false go j w h = j w h

    abbrev spend_one : Frame → Instr → List Instr → State → World → Outcome
    spend_one fr j is s w = spend (cost j s.operands) w (λ v. one f fr j is (record s { world = v }))

    spend_one_keeps :
        (fr : Frame) (j : Instr) (is : List Instr) (s : State) (w : World) → Since B w
        → Keeps B reason (spend_one fr j is s w)
    spend_one_keeps fr j is s w h =
        spend_keeps B reason (cost j s.operands) w (λ v. one f fr j is (record s { world = v })) h
        (λ v k. one_keeps fr j is (record s { world = v }) k)

    pub instruction_keeps :
        (fr : Frame) (j : Instr) (is : List Instr) (s : State) → Since B s.world
        → Keeps B reason (instruction f fr j is s)
    instruction_keeps fr (i.MemoryGrow k) is s h = memory_grow_keeps fr k is s h
    instruction_keeps fr (i.TableGrow k) is s h = table_grow_keeps fr k is s h
    instruction_keeps fr j is s h =
        where_bulk_keeps (is_bulk j) (spend_one fr j is s) (spend_one_keeps fr j is s) s.world h
