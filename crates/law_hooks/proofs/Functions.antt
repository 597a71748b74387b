-- Calls of functions: one that code calls ends with the calls that were open at its begin, and so does one from outside
-- of all code, between whose borders one more is open.
use Rattle.std.proofs.Common.{ℕ, zero, suc, List, [], Option, refl}
use Rattle.std.specs.Prelude.{◌++◌, Bool, true, false, length, nat_eq, slice_get}
use Rattle.wasm_types.specs.FunctionParts.{params, results}
use Rattle.wasm_types.specs.Signatures.{Signature}
use Rattle.wasm_syntax.specs.declared.declarations.Block.{Block}
use Rattle.wasm_syntax.specs.declared.declarations.FuncDecl.{FuncDecl}
use Rattle.wasm_meter.specs.declared.call_hook.CallHook.{CallHook}
use Rattle.wasm_meter.specs.declared.call_hook.CallHook.TheVariants as event
use Rattle.wasm_values.specs.declared.externals.Extern.{Extern}
use Rattle.wasm_values.specs.declared.refusals.Refusal.TheVariants as refusal
use Rattle.wasm_values.specs.declared.refusals.Trap.TheVariants as trap
use Rattle.wasm_objects.specs.declared.raw.RawVal.{RawVal}
use Rattle.spec_machine.specs.Machine.{Function, guest, host, InstanceParts}
use Rattle.spec_execution.specs.Activations.{Activation}
use Rattle.spec_execution.specs.Askings.{Having, Answer, Has}
use Rattle.spec_execution.specs.Entering.{Frame, Run, Exec, leave_front, leave, run_body, begun_locals, frame, enter_guest, activation, step_first, begin_host, where_has, enter_host, enter_function, enter, entry}
use Rattle.spec_execution.specs.Operands.{have_kinds}
use Rattle.spec_execution.specs.Outcomes.{World, State, state, Outcome, Values, Branch, Return, Over, Trapped, Refused, Stuck}
use Rattle.spec_execution.specs.declared.answer.Event.TheVariants.{Start}
use Rattle.law_hooks.proofs.Worlds.{Base, Stands, Ends, ended, either, found_stands, hear_stands}
use Rattle.law_hooks.proofs.Outcomes.{Keeps, Finishes, Good, function_ends, values_finishes, front_stands}
use Rattle.law_hooks.proofs.Borders.{within, wasm_begins, host_begins, wasm_concludes, host_concludes, begin_stands, pass_behind_finishes}
use Rattle.law_hooks.proofs.Checks.{check_stands}

module _ (B : Base) (calls : List CallHook) where
  abbrev ends : Ends B Over calls (Finishes B calls)
  ends = function_ends B calls

  -- ---- how a function is left

  leave_front_finishes : (k : ℕ) (s : State) → Stands B calls s.world → Finishes B calls (leave_front k s)
  leave_front_finishes k s h = front_stands B ends s.world h k s.operands _ (λ front rest. values_finishes B calls (state s.world [] front) h)

  pub leave_finishes : (k : ℕ) (o : Outcome) → Keeps B calls o → Finishes B calls (leave k o)
  leave_finishes k (Values s) h =
      either B ends (nat_eq (length s.operands) k) _ _
      (values_finishes B calls (state s.world [] s.operands) h.by) (ended B ends Stuck s.world h.by)
  leave_finishes k (Branch zero s) h = leave_front_finishes k s h.by
  leave_finishes k (Branch (suc l) s) h = ended B ends Stuck s.world h.by
  leave_finishes k (Return s) h = leave_front_finishes k s h.by
  leave_finishes k (Over e w) h = record { by = h.by }

  module _ (f : Exec) (good : Good B f) where
    -- ---- a function of an instance

    run_body_finishes :
        (fr : Frame) (args : List RawVal) (w : World) (t : Signature) (body : Block) → Stands B calls w
        → Finishes B calls (run_body f fr args w t body)
    run_body_finishes fr args w t body h =
        check_stands B ends _
        (λ v k. leave_finishes (length (results t)) _
        (good.code calls (Run fr body.instrs) (state v (args ++ begun_locals fr.function) []) k)) w h

    enter_guest_finishes :
        (depth instance : ℕ) (parts : InstanceParts) (fn : FuncDecl) (args : List RawVal) (w : World) → Stands B calls w
        → Finishes B calls (enter_guest f depth instance parts fn args w)
    enter_guest_finishes depth instance parts fn args w h =
        found_stands B ends w (slice_get parts.decl.types fn.ty) _ h (λ t.
        found_stands B ends w (slice_get fn.blocks 0) _ h (λ body.
        run_body_finishes (frame instance parts fn (suc depth)) args w t body h))

    -- ---- a function of the host

    step_first_finishes : (a : Activation) (w : World) → Stands B calls w → Finishes B calls (step_first f a w)
    step_first_finishes a w h =
        begin_stands B (Finishes B calls) calls ends event.CallingHost host_begins w h _ (λ v k.
        pass_behind_finishes B calls event.ReturningFromHost event.CallingHost host_concludes _
        (good.body (within B.flags.hooked event.CallingHost calls) a Start (state v [] []) k))

    where_has_finishes :
        (a : Activation) (kinds : Bool) (answer : Answer) (w : World) → Stands B calls w
        → Finishes B calls (where_has (begin_host f a kinds) answer w)
    where_has_finishes a kinds (Has true) w h =
        either B ends kinds _ _ (step_first_finishes a w h) (ended B ends Stuck w h)
    where_has_finishes a kinds (Has false) w h = ended B ends (Refused refusal.NoHostBody) w h
    where_has_finishes a kinds answer w h = ended B ends Stuck w h

    enter_host_finishes :
        (depth : ℕ) (t : Signature) (body : ℕ) (stored : List Extern) (args : List RawVal) (caller : Option ℕ)
        (w : World) → Stands B calls w → Finishes B calls (enter_host f depth t body stored args caller w)
    enter_host_finishes depth t body stored args caller w h =
        hear_stands B ends w (Having body) _ w.answers (λ a e. (refl, e)) h
        (where_has_finishes (activation w.machine depth t body stored args caller) (have_kinds (params t) args))

    -- ---- a function of either kind

    enter_function_finishes :
        (depth : ℕ) (args : List RawVal) (caller : Option ℕ) (w : World) (fn : Function) → Stands B calls w
        → Finishes B calls (enter_function f depth args caller w fn)
    enter_function_finishes depth args caller w (guest instance k) h =
        found_stands B ends w (slice_get w.machine.instances instance) _ h (λ parts.
        found_stands B ends w (slice_get parts.decl.functions k) _ h (λ fn.
        enter_guest_finishes depth instance parts fn args w h))
    enter_function_finishes depth args caller w (host t body stored) h =
        enter_host_finishes depth t body stored args caller w h

    pub enter_finishes :
        (depth k : ℕ) (args : List RawVal) (caller : Option ℕ) (w : World) → Stands B calls w
        → Finishes B calls (enter f depth k args caller w)
    enter_finishes depth k args caller w h =
        either B ends (nat_eq depth w.machine.engine.frames) _ _ (ended B ends (Trapped trap.StackOverflow) w h)
        (found_stands B ends w (slice_get w.machine.functions k) _ h (λ fn.
        enter_function_finishes depth args caller w fn h))

-- a call from outside of all code
module _ (B : Base) (calls : List CallHook) (f : Exec) (good : Good B f) where
  pub entry_finishes :
      (depth k : ℕ) (args : List RawVal) (caller : Option ℕ) (w : World) → Stands B calls w
      → Finishes B calls (entry f depth k args caller w)
  entry_finishes depth k args caller w h =
      begin_stands B (Finishes B calls) calls (function_ends B calls) event.CallingWasm wasm_begins w h _ (λ v j.
      pass_behind_finishes B calls event.ReturningFromWasm event.CallingWasm wasm_concludes _
      (enter_finishes B (within B.flags.hooked event.CallingWasm calls) f good depth k args caller v j))
