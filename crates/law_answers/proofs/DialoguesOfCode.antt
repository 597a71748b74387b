-- All code is a dialogue, since each of its parts is where the code behind it is.
use Rattle.std.proofs.Common.{ℕ, zero, suc, ◌<◌, ◌≤◌, ◌-◌, ◌^◌, ◌==◌, List, [], ◌∷◌, ◌++◌, Option, Some, None, refl, ◌∙◌, arith, le_refl}
use Rattle.std.specs.Prelude.{Bool, true, false, reverse, length, if◌then◌else◌, slice_get}
use Rattle.wasm_types.specs.FunctionParts.{params, results}
use Rattle.wasm_types.specs.Matching.{matches}
use Rattle.wasm_types.specs.Signatures.{Signature}
use Rattle.wasm_syntax.specs.declared.declarations.Block.{Block}
use Rattle.wasm_syntax.specs.declared.instr.Instr.{Instr}
use Rattle.wasm_syntax.specs.declared.instr.Instr.TheVariants as i
use Rattle.wasm_values.specs.declared.refusals.Refusal.TheVariants as refusal
use Rattle.wasm_values.specs.declared.refusals.Trap.TheVariants as trap
use Rattle.wasm_objects.specs.declared.raw.RawRef.{RawRef}
use Rattle.wasm_objects.specs.declared.raw.RawRef.TheVariants as r
use Rattle.wasm_objects.specs.declared.raw.RawVal.{RawVal}
use Rattle.spec_machine.specs.Changes.{charge}
use Rattle.spec_machine.specs.Growth.{Decision, Granted, Failed, Faulted, Plan}
use Rattle.spec_machine.specs.Values.{function_type}
use Rattle.spec_execution.specs.Askings.{Asking, Answer}
use Rattle.spec_execution.specs.Bodies.{with_operands, Exit, exit, after, inside, block, loop_exit, iterate, branch_if, target, back, call, callee, element, signed_by, call_indirect, grown, grow, memory_grow, table_grow, then_run, one, where_bulk, instruction, at_once, list, step, exec}
use Rattle.spec_execution.specs.Checks.{check}
use Rattle.spec_execution.specs.Costs.{is_bulk, cost}
use Rattle.spec_execution.specs.Entering.{Frame, Code, Run, Again, Step, enter}
use Rattle.spec_execution.specs.Operands as on
use Rattle.spec_execution.specs.Outcomes.{World, State, state, Outcome, Values, Branch, Return, Over, Trapped, Refused, Stuck, spend}
use Rattle.spec_execution.specs.Straight.{Effect, Goes, Traps, Sticks, act}
use Rattle.spec_execution.proofs.EquationLemmas.{exec_is}
use Rattle.spec_execution.proofs.WaysOfCode.{memory_plan, table_plan}
use Rattle.law_answers.proofs.Dialogues.{at, state_at, one_of, behind}
use Rattle.law_answers.proofs.CodeDialogues.{placed, HasTurns, code, Runs, wider, ends_over, values, branch, «return», spend_reads, found, i32, reference, front, function, memory, table}
use Rattle.law_answers.proofs.DialoguesOfCalls.{Keeps, early, enter_reads}
use Rattle.law_answers.proofs.DialoguesOfChecks.{Onward, decide_reads, on_fuel_reads, check_reads}
use Rattle.law_answers.proofs.DialoguesOfHosts.{step_reads}

module _ (n m : ℕ) (le : n ≤ m) (keeps : Keeps n m) (own : Keeps n n) where
  branch_if_reads :
      (x k : ℕ) (s : State) (go : State → Outcome) → s.world.turns < n → Runs n m (λ h l. go (state_at s h l))
      → Runs n m (λ h l. branch_if x k (state_at s h l) go)
  branch_if_reads zero k s go few j = j
  branch_if_reads (suc x) k s go few j = branch n m k s few

  callee_reads :
      (x : RawRef) (s : State) (go : ℕ → List Asking → List Answer → Outcome) → s.world.turns < n
      → ((f : ℕ) → Runs n m (go f)) → Runs n m (λ h l. callee x (state_at s h l) (λ f. go f h l))
  callee_reads r.Null s go few j = ends_over n m (Trapped trap.IndirectCallToNull) s.world (early n m le _ few)
  callee_reads (r.Func f) s go few j = j f
  callee_reads x s go few j = ends_over n m Stuck s.world (early n m le _ few)

  element_reads :
      (x : Option RawRef) (s : State) (go : RawRef → List Asking → List Answer → Outcome) → s.world.turns < n
      → ((y : RawRef) → Runs n m (go y)) → Runs n m (λ h l. element x (state_at s h l) (λ y. go y h l))
  element_reads None s go few j = ends_over n m (Trapped trap.TableOutOfBounds) s.world (early n m le _ few)
  element_reads (Some y) s go few j = j y

  signed_by_reads :
      (o : Option Signature) (wanted : Signature) (s : State) (run : List Asking → List Answer → Outcome)
      → s.world.turns < n → Runs n m run → Runs n m (λ h l. signed_by o wanted (state_at s h l) (run h l))
  signed_by_reads None wanted s run few j = ends_over n m Stuck s.world (early n m le _ few)
  signed_by_reads (Some t) wanted s run few j =
      one_of (code n m) (matches t wanted) _ _ j (ends_over n m (Trapped trap.BadSignature) s.world (early n m le _ few))

  -- ---- blocks

  after_ends :
      (next : Code) (e : Exit) (below : List RawVal) (o : Outcome) → HasTurns n m o
      → Runs n m (λ h l. after exec next e below (placed o h l))
  after_ends next e below (Values s) b = keeps.by next (with_operands s (s.operands ++ below)) b
  after_ends next e below (Branch zero s) b =
      front n m s.world (early n m le _ b) e.arity s.operands
      (λ carried rest h l. exec e.target (state_at (with_operands s (carried ++ below)) h l))
      (λ carried rest. keeps.by e.target (with_operands s (carried ++ below)) b)
  after_ends next e below (Branch (suc k) s) b = branch n m k s b
  after_ends next e below (Return s) b = «return» n m s b
  after_ends next e below (Over end w) b = ends_over n m end w b

  after_reads :
      (next : Code) (e : Exit) (below : List RawVal) (run : _) → Runs n m run
      → Runs n m (λ h l. after exec next e below (run h l))
  after_reads next e below run j =
      behind (code n m) (code n m) (after exec next e below) (λ q w. refl) (after_ends next e below) run j

  module _ (k : ℕ) where
    -- the inner code may take the turn
    abbrev Inner : (State → Outcome) → Type 0
    Inner go = (s : State) → s.world.turns < k → s.world.turns < m → Runs n m (λ h l. go (state_at s h l))

    inside_reads :
        (next : Code) (e : Exit) (t : Signature) (s : State) (inner : State → Outcome) → Inner inner
        → s.world.turns < k → s.world.turns < m → Runs n m (λ h l. inside exec next e t (state_at s h l) inner)
    inside_reads next e t s inner j b c =
        front n m s.world c (length (params t)) s.operands
        (λ own below h l. after exec next e below (inner (state_at (with_operands s own) h l)))
        (λ own below. after_reads next e below _ (j (with_operands s own) b c))

    iterate_reads :
        (fr : Frame) (b : ℕ) (is : List Instr) (s : State) (inner : Block → State → Outcome)
        → ((body : Block) → Inner (inner body)) → s.world.turns < k → s.world.turns < m
        → Runs n m (λ h l. iterate exec fr b is (state_at s h l) inner)
    iterate_reads fr b is s inner j few c =
        found n m s.world c (slice_get fr.function.blocks b) _ (λ body.
        found n m s.world c (slice_get fr.decl.types body.ty) _ (λ t.
        inside_reads (Run fr is) (loop_exit fr b is t) t s
        (λ own. check own.world (λ w. inner body (record own { world = w })))
        (λ own d e. check_reads n m k own.world (λ w. inner body (record own { world = w }))
        (λ v e' d'. j body (record own { world = v }) d' e') e d) few c))

  block_reads :
      (fr : Frame) (b : ℕ) (is : List Instr) (s : State) → s.world.turns < n
      → Runs n m (λ h l. block exec fr b is (state_at s h l))
  block_reads fr b is s few =
      found n m s.world (early n m le _ few) (slice_get fr.function.blocks b) _ (λ body.
      found n m s.world (early n m le _ few) (slice_get fr.decl.types body.ty) _ (λ t.
      inside_reads n (Run fr is) (exit (length (results t)) (Run fr is)) t s (exec (Run fr body.instrs))
      (λ u d e. keeps.by (Run fr body.instrs) u d) few (early n m le _ few)))

  -- ---- calls

  back_ends :
      (next : Code) (locals below : List RawVal) (o : Outcome) → HasTurns n m o
      → Runs n m (λ h l. back exec next locals below (placed o h l))
  back_ends next locals below (Values s) b = keeps.by next (state s.world locals (s.operands ++ below)) b
  back_ends next locals below (Branch k s) b = ends_over n m Stuck s.world (early n m le _ b)
  back_ends next locals below (Return s) b = ends_over n m Stuck s.world (early n m le _ b)
  back_ends next locals below (Over e w) b = ends_over n m e w b

  back_reads :
      (next : Code) (locals below : List RawVal) (run : _) → Runs n m run
      → Runs n m (λ h l. back exec next locals below (run h l))
  back_reads next locals below run j =
      behind (code n m) (code n m) (back exec next locals below) (λ q w. refl) (back_ends next locals below) run j

  call_reads :
      (fr : Frame) (is : List Instr) (s : State) (k : ℕ) → s.world.turns < n
      → Runs n m (λ h l. call exec fr is (state_at s h l) k)
  call_reads fr is s k few =
      found n m s.world (early n m le _ few) (function_type s.world.machine k) _ (λ t.
      front n m s.world (early n m le _ few) (length (params t)) s.operands
      (λ own_ below h l. back exec (Run fr is) s.locals below (enter exec fr.depth k (reverse own_) (Some fr.instance) (at s.world h l)))
      (λ own_ below. back_reads (Run fr is) s.locals below _
      (enter_reads n m le keeps fr.depth k (reverse own_) (Some fr.instance) s.world few)))

  call_indirect_reads :
      (fr : Frame) (ty k : ℕ) (is : List Instr) (s : State) → s.world.turns < n
      → Runs n m (λ h l. call_indirect exec fr ty k is (state_at s h l))
  call_indirect_reads fr ty k is s few =
      let c : s.world.turns < m = early n m le s.world.turns few in
      i32 n m s.world c s.operands _ (λ place rest.
      found n m s.world c (slice_get fr.decl.types ty) _ (λ wanted.
      table n m s.world c s.world.machine fr.instance k _ (λ x y.
      element_reads (slice_get y.elements place) (with_operands s rest) _ few (λ z.
      callee_reads z (with_operands s rest) _ few (λ fn.
      signed_by_reads (function_type s.world.machine fn) wanted (with_operands s rest) _ few
      (call_reads fr is (with_operands s rest) fn few))))))

  -- ---- instructions

  then_run_reads :
      (next : Code) (s : State) (e : Effect) → s.world.turns < n → Runs n m (λ h l. then_run exec next (state_at s h l) e)
  then_run_reads next s (Goes x locals operands) few = keeps.by next (state (record s.world { machine = x }) locals operands) few
  then_run_reads next s (Traps t) few = ends_over n m (Trapped t) s.world (early n m le _ few)
  then_run_reads next s Sticks few = ends_over n m Stuck s.world (early n m le _ few)

  one_reads :
      (fr : Frame) (j : Instr) (is : List Instr) (s : State) → s.world.turns < n
      → Runs n m (λ h l. one exec fr j is (state_at s h l))
  one_reads fr i.Unreachable is s few = ends_over n m (Trapped trap.UnreachableCodeReached) s.world (early n m le _ few)
  one_reads fr (i.Block k) is s few = block_reads fr k is s few
  one_reads fr (i.Loop k) is s few =
      iterate_reads n fr k is s (λ body. exec (Run fr body.instrs)) (λ body u d e. keeps.by (Run fr body.instrs) u d) few
      (early n m le _ few)
  one_reads fr (i.If a b) is s few =
      i32 n m s.world (early n m le _ few) s.operands _
      (λ x rest. block_reads fr (if x == 0 then b else a) is (with_operands s rest) few)
  one_reads fr (i.Br k) is s few = branch n m k s few
  one_reads fr (i.BrIf k) is s few =
      i32 n m s.world (early n m le _ few) s.operands _ (λ x rest.
      branch_if_reads x k (with_operands s rest) (exec (Run fr is)) few (keeps.by (Run fr is) (with_operands s rest) few))
  one_reads fr (i.BrTable k) is s few =
      i32 n m s.world (early n m le _ few) s.operands _ (λ x rest.
      found n m s.world (early n m le _ few) (slice_get fr.function.targets k) _ (λ labels.
      found n m s.world (early n m le _ few) (target labels x) _ (λ y. branch n m y (with_operands s rest) few)))
  one_reads fr i.Return is s few = «return» n m s few
  one_reads fr (i.Call k) is s few =
      function n m s.world (early n m le _ few) s.world.machine fr.instance k _ (λ fn. call_reads fr is s fn few)
  one_reads fr (i.CallIndirect ty k) is s few = call_indirect_reads fr ty k is s few
  one_reads fr j is s few = then_run_reads (Run fr is) s (act fr.instance s.world.machine s.locals j s.operands) few

  -- ---- growth, whose question comes before the turn of the instruction

  grown_reads :
      (next : Code) (s : State) (p : Plan ℕ) (d : Decision) (w : World) → w.turns < m → w.turns < suc n
      → Runs n m (λ h l. grown exec next s p d (at w h l))
  grown_reads next s p Granted w c few =
      let granted : World → State =
      λ v. state (record v { machine = charge p.after 1 }) s.locals (on.integer 32 p.gives ∷ s.operands) in
      spend_reads n m n 1 w (λ v. exec next (granted v)) few c (λ v d. keeps.by next (granted v) d)
  grown_reads next s p Failed w c few =
      let denied : World → State = λ v. state v s.locals (on.integer 32 (2 ^ 32 - 1) ∷ s.operands) in
      spend_reads n m n 1 w (λ v. exec next (denied v)) few c (λ v d. keeps.by next (denied v) d)
  grown_reads next s p Faulted w c few = ends_over n m (Refused refusal.LimiterFault) w c

  grow_reads :
      (next : Code) (s : State) (p : Plan ℕ) → s.world.turns < m → s.world.turns < suc n
      → Runs n m (λ h l. grow exec next (state_at s h l) p)
  grow_reads next s p c few =
      decide_reads (code n m) (suc n) s.world p (grown exec next s p) (grown_reads next s p) c few

  memory_grow_reads :
      (fr : Frame) (k : ℕ) (is : List Instr) (s : State) → s.world.turns < m → s.world.turns < suc n
      → Runs n m (λ h l. memory_grow exec fr k is (state_at s h l))
  memory_grow_reads fr k is s c few =
      i32 n m s.world c s.operands _ (λ delta rest.
      memory n m s.world c s.world.machine fr.instance k _ (λ x y.
      grow_reads (Run fr is) (with_operands s rest) (memory_plan s.world.machine x y delta) c few))

  table_grow_reads :
      (fr : Frame) (k : ℕ) (is : List Instr) (s : State) → s.world.turns < m → s.world.turns < suc n
      → Runs n m (λ h l. table_grow exec fr k is (state_at s h l))
  table_grow_reads fr k is s c few =
      i32 n m s.world c s.operands _ (λ delta rest1. reference n m s.world c rest1 _ (λ y rest.
      table n m s.world c s.world.machine fr.instance k _ (λ x z.
      grow_reads (Run fr is) (with_operands s rest) (table_plan s.world.machine x z delta y) c few)))

  -- ---- code that takes a turn

  -- the fuel is tested before a bulk form
  where_bulk_reads :
      (bulk : Bool) (v : World) (go : World → Outcome) → Onward n m (suc n) go → v.turns < m → v.turns < suc n
      → Runs n m (λ h l. where_bulk bulk (at v h l) go)
  where_bulk_reads true v go j c few = on_fuel_reads n m (suc n) v go j c few
  where_bulk_reads false v go j c few = j v c few

  abbrev spend_one : Frame → Instr → List Instr → State → World → Outcome
  spend_one fr j is s w = spend (cost j s.operands) w (λ v. one exec fr j is (record s { world = v }))

  spend_one_reads : (fr : Frame) (j : Instr) (is : List Instr) (s : State) → Onward n m (suc n) (spend_one fr j is s)
  spend_one_reads fr j is s w c few =
      spend_reads n m n (cost j s.operands) w (λ v. one exec fr j is (record s { world = v })) few c
      (λ v d. one_reads fr j is (record s { world = v }) d)

  instruction_reads :
      (fr : Frame) (j : Instr) (is : List Instr) (s : State) → s.world.turns < m → s.world.turns < suc n
      → Runs n m (λ h l. instruction exec fr j is (state_at s h l))
  instruction_reads fr (i.MemoryGrow k) is s c few = memory_grow_reads fr k is s c few
  instruction_reads fr (i.TableGrow k) is s c few = table_grow_reads fr k is s c few
  instruction_reads fr j is s c few =
      where_bulk_reads (is_bulk j) s.world (spend_one fr j is s) (spend_one_reads fr j is s) c few

  at_once_reads :
      (fr : Frame) (is : List Instr) (s : State) → s.world.turns < m → s.world.turns < suc n
      → Runs n m (λ h l. at_once exec fr is (state_at s h l))
  at_once_reads fr [] s c few = ends_over n m Stuck s.world c
  at_once_reads fr (j ∷ is) s c few = instruction_reads fr j is s c few

-- ---- all code

module _ (n : ℕ) (keeps : Keeps n (suc n)) (own : Keeps n n) where
  less : n ≤ suc n
  less = omega arith

  all_less : (run : List Asking → List Answer → Outcome) → Runs n (suc n) run → Runs (suc n) (suc n) run
  all_less run j = wider n (suc n) (suc n) (suc n) less (le_refl (suc n)) run j

  list_reads :
      (fr : Frame) (is : List Instr) (s : State) → s.world.turns < suc n
      → Runs (suc n) (suc n) (λ h l. list exec fr is (state_at s h l))
  list_reads fr [] s few = values (suc n) (suc n) s few
  list_reads fr (j ∷ is) s few = all_less _ (instruction_reads n (suc n) less keeps own fr j is s few few)

  code_reads :
      (c : Code) (s : State) → s.world.turns < suc n → Runs (suc n) (suc n) (λ h l. step exec c (state_at s h l))
  unfolding step
  code_reads (Run fr is) s few = list_reads fr is s few
  code_reads (Again fr k is) s few =
      all_less _
      (iterate_reads n (suc n) less keeps own (suc n) fr k is s (λ body. at_once exec fr body.instrs)
      (λ body u d e. at_once_reads n (suc n) less keeps own fr body.instrs u e d) few few)
  code_reads (Step a ev) s few = all_less _ (step_reads n (suc n) less keeps own a ev s.world few few)

  next_reads : Keeps (suc n) (suc n)
  next_reads = record {
    by = λ c s few.
        let k = code_reads c s few in
        record {
          dialogue = k.dialogue;
          is = λ h l. exec_is c (state_at s h l) ∙ k.is h l;
          within = k.within;
        };
  }

pub exec_reads : (n : ℕ) → Keeps n n
exec_reads zero = record { by = λ c s few. absurd (omega (arith, few)) }
exec_reads (suc n) =
    let own : Keeps n n = exec_reads n in
    next_reads n
    (record { by = λ c s few. wider n n n (suc n) (le_refl n) (omega arith) _ (own.by c s few) }) own
