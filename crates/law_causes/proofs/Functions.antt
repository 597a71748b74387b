-- Calls of functions, by code and from outside of all code.
use Rattle.std.proofs.Common.{ℕ, zero, suc, List, [], Option}
use Rattle.std.specs.Prelude.{◌++◌, Bool, true, false, length, nat_eq, slice_get}
use Rattle.wasm_types.specs.FunctionParts.{params, results}
use Rattle.wasm_types.specs.Signatures.{Signature}
use Rattle.wasm_syntax.specs.declared.declarations.Block.{Block}
use Rattle.wasm_syntax.specs.declared.declarations.FuncDecl.{FuncDecl}
use Rattle.wasm_meter.specs.declared.call_hook.CallHook.TheVariants as event
use Rattle.wasm_values.specs.declared.externals.Extern.{Extern}
use Rattle.wasm_values.specs.declared.refusals.Refusal.TheVariants as refusal
use Rattle.wasm_values.specs.declared.refusals.Trap.TheVariants as trap
use Rattle.wasm_objects.specs.declared.raw.RawVal.{RawVal}
use Rattle.spec_machine.specs.Machine.{Function, guest, host, InstanceParts}
use Rattle.spec_execution.specs.Activations.{Activation}
use Rattle.spec_execution.specs.Askings.{Having, Answer, Has, Asking}
use Rattle.spec_execution.specs.Entering.{Frame, Run, Step, Exec, leave_front, leave, run_body, begun_locals, frame, enter_guest, activation, step_first, begin_host, where_has, enter_host, enter_function, enter, entry}
use Rattle.spec_execution.specs.Operands.{have_kinds}
use Rattle.spec_execution.specs.Outcomes.{World, State, state, Outcome, Values, Branch, Return, Over, Trapped, Refused, Stuck}
use Rattle.spec_execution.specs.declared.answer.Event.TheVariants.{Start}
use Rattle.law_causes.specs.Causes.{Reasons}
use Rattle.law_causes.proofs.Worlds.{Since, Behind, Ends, either, hear_since, since_lasts, caused_own}
use Rattle.law_causes.proofs.Outcomes.{Keeps, Good, code_ends, values_keeps, found_keeps, front_keeps}
use Rattle.law_causes.proofs.Checks.{check_keeps, pass_keeps, pass_behind_keeps}

module _ (B : List Asking) (reason : Reasons) where
  abbrev ends : Ends B Over reason (Keeps B reason)
  ends = code_ends B reason

  -- ---- how a function is left

  leave_front_keeps : (k : ℕ) (s : State) → Since B s.world → Keeps B reason (leave_front k s)
  leave_front_keeps k s h =
      front_keeps B reason s.world h k s.operands _ (λ front rest. values_keeps B reason (state s.world [] front) h)

  leave_keeps : (k : ℕ) (o : Outcome) → Keeps B reason o → Keeps B reason (leave k o)
  leave_keeps k (Values s) h =
      either B ends (nat_eq (length s.operands) k) _ _ (values_keeps B reason (state s.world [] s.operands) h.by)
      (ends.by Stuck s.world h.by)
  leave_keeps k (Branch zero s) h = leave_front_keeps k s h.by
  leave_keeps k (Branch (suc l) s) h = ends.by Stuck s.world h.by
  leave_keeps k (Return s) h = leave_front_keeps k s h.by
  leave_keeps k (Over e w) h = record { by = h.by }

  module _ (f : Exec) (good : Good B reason f) where
    -- ---- a function of an instance

    run_body_keeps :
        (fr : Frame) (args : List RawVal) (w : World) (t : Signature) (body : Block) → Since B w
        → Keeps B reason (run_body f fr args w t body)
    run_body_keeps fr args w t body h =
        check_keeps B reason _
        (λ v k. leave_keeps (length (results t)) _
        (good.code (Run fr body.instrs) (state v (args ++ begun_locals fr.function) []) k)) w h

    enter_guest_keeps :
        (depth instance : ℕ) (parts : InstanceParts) (fn : FuncDecl) (args : List RawVal) (w : World) → Since B w
        → Keeps B reason (enter_guest f depth instance parts fn args w)
    enter_guest_keeps depth instance parts fn args w h =
        found_keeps B reason w h (slice_get parts.decl.types fn.ty) _ (λ t.
        found_keeps B reason w h (slice_get fn.blocks 0) _ (λ body.
        run_body_keeps (frame instance parts fn (suc depth)) args w t body h))

    -- ---- a function of the host

    step_first_keeps : (a : Activation) (w : World) → Since B w → Keeps B reason (step_first f a w)
    step_first_keeps a w h =
        pass_keeps B reason (since_lasts B) _ (λ v k.
        pass_behind_keeps B reason event.ReturningFromHost _ (good.code (Step a Start) (state v [] []) k))
        event.CallingHost w h

    where_has_keeps :
        (a : Activation) (kinds : Bool) (answer : Answer) (w : World) → Since B w → Behind B answer w
        → Keeps B reason (where_has (begin_host f a kinds) answer w)
    where_has_keeps a kinds (Has true) w h b = either B ends kinds _ _ (step_first_keeps a w h) (ends.by Stuck w h)
    where_has_keeps a kinds (Has false) w h b =
        ends.by (Refused refusal.NoHostBody) w (caused_own B reason refusal.NoHostBody w tt (good.own refusal.NoHostBody tt) h)
    where_has_keeps a kinds answer w h b = ends.by Stuck w h

    enter_host_keeps :
        (depth : ℕ) (t : Signature) (body : ℕ) (stored : List Extern) (args : List RawVal) (caller : Option ℕ)
        (w : World) → Since B w → Keeps B reason (enter_host f depth t body stored args caller w)
    enter_host_keeps depth t body stored args caller w h =
        hear_since B ends (since_lasts B) w (Having body) _ w.answers h
        (where_has_keeps (activation w.machine depth t body stored args caller) (have_kinds (params t) args))

    -- ---- a function of either kind

    enter_function_keeps :
        (depth : ℕ) (args : List RawVal) (caller : Option ℕ) (w : World) (fn : Function) → Since B w
        → Keeps B reason (enter_function f depth args caller w fn)
    enter_function_keeps depth args caller w (guest instance k) h =
        found_keeps B reason w h (slice_get w.machine.instances instance) _ (λ parts.
        found_keeps B reason w h (slice_get parts.decl.functions k) _ (λ fn.
        enter_guest_keeps depth instance parts fn args w h))
    enter_function_keeps depth args caller w (host t body stored) h =
        enter_host_keeps depth t body stored args caller w h

    pub enter_keeps :
        (depth k : ℕ) (args : List RawVal) (caller : Option ℕ) (w : World) → Since B w
        → Keeps B reason (enter f depth k args caller w)
    enter_keeps depth k args caller w h =
        either B ends (nat_eq depth w.machine.engine.frames) _ _ (ends.by (Trapped trap.StackOverflow) w h)
        (found_keeps B reason w h (slice_get w.machine.functions k) _ (λ fn.
        enter_function_keeps depth args caller w fn h))

    -- a call from outside of all code
    pub entry_keeps :
        (depth k : ℕ) (args : List RawVal) (caller : Option ℕ) (w : World) → Since B w
        → Keeps B reason (entry f depth k args caller w)
    entry_keeps depth k args caller w h =
        pass_keeps B reason (since_lasts B) _ (λ v j.
        pass_behind_keeps B reason event.ReturningFromWasm _ (enter_keeps depth k args caller v j)) event.CallingWasm w h
