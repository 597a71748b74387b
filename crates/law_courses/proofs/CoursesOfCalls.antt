-- A run beside another: calls of functions.
use Rattle.std.proofs.Common.{◌≡◌, ℕ, zero, suc, List, [], ◌++◌, Option, Some, sym, ap, subst, inl, inr}
use Rattle.std.specs.Prelude.{Bool, true, false, length, nat_eq, slice_get}
use Rattle.wasm_types.specs.FunctionParts.{params, results}
use Rattle.wasm_types.specs.Signatures.{Signature}
use Rattle.wasm_syntax.specs.declared.declarations.Block.{Block}
use Rattle.wasm_syntax.specs.declared.declarations.FuncDecl.{FuncDecl}
use Rattle.wasm_meter.specs.declared.call_hook.CallHook.TheVariants as event
use Rattle.wasm_values.specs.declared.externals.Extern.{Extern}
use Rattle.wasm_values.specs.declared.refusals.Refusal.TheVariants as refusal
use Rattle.wasm_values.specs.declared.refusals.Trap.TheVariants as trap
use Rattle.wasm_objects.specs.declared.raw.RawVal.{RawVal}
use Rattle.spec_machine.specs.Machine.{EngineParts, Function, guest, host, InstanceParts}
use Rattle.law_store.proofs.Lists.{each_none, each_append}
use Rattle.spec_execution.specs.Askings.{Having, Answer, Has}
use Rattle.spec_execution.specs.Bodies.{exec}
use Rattle.spec_execution.specs.Entering.{Frame, Code, Run, Again, Step, leave_front, leave, run_body, begun_locals, frame, enter_guest, activation, step_first, begin_host, where_has, enter_host, enter_function, enter, entry}
use Rattle.spec_execution.specs.Activations.{Activation}
use Rattle.spec_execution.specs.Operands.{have_kinds}
use Rattle.spec_execution.specs.Outcomes.{World, State, state, Outcome, Values, Branch, Return, Over, Trapped, Refused, Stuck}
use Rattle.spec_execution.specs.declared.answer.Event.TheVariants.{Start}
use Rattle.law_courses.proofs.Bounds.{Bounds, AreHeld, IsHomeOf, Turns}
use Rattle.law_courses.proofs.Courses.{twin, twin_state, Below, Holds, Matches, Alike, code_ends, values, over, one_of, one_by, hearing, found, found_in, front}
use Rattle.law_courses.proofs.CoursesOfChecks.{check_alike, pass_alike, pass_behind_alike}
use Rattle.law_courses.proofs.StrayLemmas.{leave_lost}

-- which code may run
abbrev pub IsReady : Bounds → Code → Type 0
IsReady B (Run fr is) = B.IsHome fr.instance
IsReady B (Again fr k is) = B.IsHome fr.instance
IsReady B (Step a event) = B.IsOpen a

-- code with fewer turns than so many keeps to the way
pub record Keeps (B : Bounds) (n : ℕ) : Type 0 where
  pub by : (c : Code) (s : State) → IsReady B c → Holds B n s → Alike B n (exec c s) (exec c (twin_state B s))

module _ (B : Bounds) (T : Turns B) (n : ℕ) where
  -- no locals and no operands
  pub bare : (v : World) → Below B n v → Holds B n (state v [] [])
  bare v b = record { world = b; locals = each_none B.IsHeld; operands = each_none B.IsHeld }

  pub with_results : (s : State) (vs : List RawVal) → Holds B n s → AreHeld B vs → Holds B n (state s.world [] vs)
  with_results s vs h k = record { world = h.world; locals = each_none B.IsHeld; operands = k }

  -- ---- how a function is left

  leave_front_alike :
      (k : ℕ) (s : State) → Holds B n s → Alike B n (leave_front k s) (leave_front k (twin_state B s))
  leave_front_alike k s h =
      front B T n s.world h.world.held k s.operands _ _ h.operands
      (λ own rest ho hr. values B n (state s.world [] own) (with_results s own h ho))

  leave_match : (k : ℕ) (o o' : Outcome) → Matches B n o o' → Alike B n (leave k o) (leave k o')
  leave_match k (Values s) o' h =
      subst (λ (x : Outcome). Alike B n (leave k (Values s)) (leave k x)) (sym h.0)
      (one_of B T (code_ends B n) (nat_eq (length s.operands) k) _ _ _ _
      (values B n (state s.world [] s.operands) (with_results s s.operands h.1 h.1.operands))
      (over B n Stuck s.world h.1.world.held))
  leave_match k (Branch zero s) o' h =
      subst (λ (x : Outcome). Alike B n (leave k (Branch zero s)) (leave k x)) (sym h.0) (leave_front_alike k s h.1)
  leave_match k (Branch (suc l) s) o' h = record { by = inl (ap (leave k) h.0, h.1.world.held) }
  leave_match k (Return s) o' h =
      subst (λ (x : Outcome). Alike B n (leave k (Return s)) (leave k x)) (sym h.0) (leave_front_alike k s h.1)
  leave_match k (Over e v) o' h = record { by = inl (ap (leave k) h.0, h.1) }

  leave_alike : (k : ℕ) (o o' : Outcome) → Alike B n o o' → Alike B n (leave k o) (leave k o')
  leave_alike k o o' h =
      elim h.by [
        | inl m ↦ leave_match k o o' m
        | inr l ↦ record { by = inr (leave_lost B T k o l) }
      ]

  -- ---- code that stands behind a turn

  module _ (keeps : Keeps B n) where
    run_body_alike :
        (fr : Frame) (args : List RawVal) (v : World) (t : Signature) (body : Block) → B.IsHome fr.instance
        → AreHeld B args → Below B n v
        → Alike B n (run_body exec fr args v t body) (run_body exec fr args (twin B v) t body)
    run_body_alike fr args v t body home held b =
        check_alike B T n n v _ _
        (λ u c. leave_alike (length (results t)) _ _
        (keeps.by (Run fr body.instrs) (state u (args ++ begun_locals fr.function) []) home
        (record {
          world = c;
          locals = each_append B.IsHeld args (begun_locals fr.function) held (T.begun_held fr.function);
          operands = each_none B.IsHeld;
        }))) b

    enter_guest_alike :
        (depth instance : ℕ) (parts : InstanceParts) (fn : FuncDecl) (args : List RawVal) (v : World)
        → B.IsHome instance → AreHeld B args → Below B n v
        → Alike B n (enter_guest exec depth instance parts fn args v)
        (enter_guest exec depth instance parts fn args (twin B v))
    enter_guest_alike depth instance parts fn args v home held b =
        found B T n v b.held (slice_get parts.decl.types fn.ty) _ _ (λ t e.
        found B T n v b.held (slice_get fn.blocks 0) _ _ (λ body e'.
        run_body_alike (frame instance parts fn (suc depth)) args v t body home held b))

    step_first_alike :
        (a : Activation) (v : World) → B.IsOpen a → Below B n v
        → Alike B n (step_first exec a v) (step_first exec a (twin B v))
    step_first_alike a v open_ b =
        pass_alike B T n n event.CallingHost v _ _
        (λ u c. pass_behind_alike B T n event.ReturningFromHost _ _
        (keeps.by (Step a Start) (state u [] []) open_ (bare u c))) b

    where_has_alike :
        (a : Activation) (kinds : Bool) (answer : Answer) (v : World) → B.IsOpen a → Below B n v
        → Alike B n (where_has (begin_host exec a kinds) answer v) (where_has (begin_host exec a kinds) answer (twin B v))
    where_has_alike a kinds (Has true) v o b =
        one_of B T (code_ends B n) kinds _ _ _ _ (step_first_alike a v o b) (over B n Stuck v b.held)
    where_has_alike a kinds (Has false) v o b = over B n (Refused refusal.NoHostBody) v b.held
    where_has_alike a kinds answer v o b = over B n Stuck v b.held

    enter_host_alike :
        (k depth : ℕ) (t : Signature) (body : ℕ) (stored : List Extern) (args : List RawVal)
        (caller : Option ℕ) (v : World) → B.IsCallee k → slice_get v.machine.functions k ≡ Some (host t body stored)
        → AreHeld B args → IsHomeOf B caller → Below B n v
        → Alike B n (enter_host exec depth t body stored args caller v)
        (enter_host exec depth t body stored args caller (twin B v))
    enter_host_alike k depth t body stored args caller v callee e held home b =
        let a : Activation = activation v.machine depth t body stored args caller in
        let kinds : Bool = have_kinds (params t) args in
        let o = T.opens v.machine k depth body t stored args caller b.held.store callee e held home in
        subst (λ (x : Activation). Alike B n (enter_host exec depth t body stored args caller v)
        (Rattle.spec_execution.specs.Outcomes.hear Over (twin B v) (Having body)
        (where_has (begin_host exec x kinds)) v.answers))
        (sym o.1)
        (hearing B T (code_ends B n) n v (Having body) (where_has (begin_host exec a kinds))
        (where_has (begin_host exec a kinds)) b (λ answer u c. where_has_alike a kinds answer u o.0 c))

    enter_function_alike :
        (k depth : ℕ) (args : List RawVal) (caller : Option ℕ) (v : World) (fn : Function) → B.IsCallee k
        → slice_get v.machine.functions k ≡ Some fn → AreHeld B args → IsHomeOf B caller → Below B n v
        → Alike B n (enter_function exec depth args caller v fn) (enter_function exec depth args caller (twin B v) fn)
    enter_function_alike k depth args caller v (guest instance j) callee e held home b =
        let inner : B.IsHome instance = T.leads v.machine k (guest instance j) b.held.store callee e in
        found_in B T n v b.held (slice_get v.machine.instances instance) _ _ _
        (T.instance_is v.machine instance b.held.store inner) (λ parts e'.
        found B T n v b.held (slice_get parts.decl.functions j) _ _
        (λ fn e''. enter_guest_alike depth instance parts fn args v inner held b))
    enter_function_alike k depth args caller v (host t body stored) callee e held home b =
        enter_host_alike k depth t body stored args caller v callee e held home b

    pub enter_alike :
        (depth k : ℕ) (args : List RawVal) (caller : Option ℕ) (v : World) → B.IsCallee k → AreHeld B args
        → IsHomeOf B caller → Below B n v
        → Alike B n (enter exec depth k args caller v) (enter exec depth k args caller (twin B v))
    enter_alike depth k args caller v callee held home b =
        one_by B T (code_ends B n) (nat_eq depth v.machine.engine.frames) _ _ _ _ _
        (ap (λ (e : EngineParts). nat_eq depth e.frames) (T.same v.machine b.held.store).engine)
        (over B n (Trapped trap.StackOverflow) v b.held)
        (found_in B T n v b.held (slice_get v.machine.functions k) _ _ _
        (ap (λ (fs : List Function). slice_get fs k) (T.same v.machine b.held.store).functions)
        (λ fn e. enter_function_alike k depth args caller v fn callee e held home b))

    pub entry_alike :
        (depth k : ℕ) (args : List RawVal) (caller : Option ℕ) (v : World) → B.IsCallee k → AreHeld B args
        → IsHomeOf B caller → Below B n v
        → Alike B n (entry exec depth k args caller v) (entry exec depth k args caller (twin B v))
    entry_alike depth k args caller v callee held home b =
        pass_alike B T n n event.CallingWasm v _ _
        (λ u c. pass_behind_alike B T n event.ReturningFromWasm _ _
        (enter_alike depth k args caller u callee held home c)) b
