-- Two runs side by side: calls of functions.
use Rattle.std.proofs.Common.{ℕ, zero, suc, List, [], Option, sym, ap, subst}
use Rattle.std.specs.Prelude.{◌++◌, Bool, true, false, length, nat_eq, slice_get}
use Rattle.wasm_types.specs.FunctionParts.{params, results}
use Rattle.wasm_types.specs.Signatures.{Signature}
use Rattle.wasm_syntax.specs.declared.declarations.Block.{Block}
use Rattle.wasm_syntax.specs.declared.declarations.FuncDecl.{FuncDecl}
use Rattle.wasm_meter.specs.declared.call_hook.CallHook.TheVariants as event
use Rattle.wasm_values.specs.declared.externals.Extern.{Extern}
use Rattle.wasm_values.specs.declared.refusals.Refusal.TheVariants as refusal
use Rattle.wasm_values.specs.declared.refusals.Trap.TheVariants as trap
use Rattle.wasm_objects.specs.declared.raw.RawVal.{RawVal}
use Rattle.spec_machine.specs.Machine.{Function, guest, host, InstanceParts}
use Rattle.spec_execution.specs.Askings.{Having, Answer, Has}
use Rattle.spec_execution.specs.Entering.{Frame, Run, Step, Exec, leave_front, leave, run_body, begun_locals, frame, enter_guest, activation, step_first, begin_host, where_has, enter_host, enter_function, enter, entry}
use Rattle.spec_execution.specs.Activations.{Activation}
use Rattle.spec_execution.specs.Operands.{have_kinds}
use Rattle.spec_execution.specs.Outcomes.{World, State, state, Outcome, Values, Branch, Return, Over, Trapped, Refused, Stuck}
use Rattle.spec_execution.specs.declared.answer.Event.TheVariants.{Start}
use Rattle.spec_execution.proofs.Ways.{Way, shift, shifted, Below, Alike, Fits, code_ends, values, over, either, hearing, found, front}
use Rattle.spec_execution.proofs.WaysOfChecks.{check_alike, pass_alike, pass_behind_alike}

module _ (W : Way) (n : ℕ) where
  -- ---- how a function is left

  leave_front_alike :
      (k : ℕ) (s : State) → Below W n s.world → Alike W n (leave_front k s) (leave_front k (shifted W s))
  leave_front_alike k s b =
      front W n s.world b.held k s.operands _ _ (λ f rest. values W n (state s.world [] f) b)

  leave_alike : (k : ℕ) (o o' : Outcome) → Alike W n o o' → Alike W n (leave k o) (leave k o')
  leave_alike k (Values s) o' h =
      subst (λ (x : Outcome). Alike W n (leave k (Values s)) (leave k x)) (sym h.by.0)
      (either W n (nat_eq (length s.operands) k) _ _ _ _ (values W n (state s.world [] s.operands) h.by.1)
      (over W n Stuck s.world h.by.1.held))
  leave_alike k (Branch zero s) o' h =
      subst (λ (x : Outcome). Alike W n (leave k (Branch zero s)) (leave k x)) (sym h.by.0)
      (leave_front_alike k s h.by.1)
  leave_alike k (Branch (suc l) s) o' h = record { by = (λ _. ap (leave k) h.by.0, h.by.1.held) }
  leave_alike k (Return s) o' h =
      subst (λ (x : Outcome). Alike W n (leave k (Return s)) (leave k x)) (sym h.by.0) (leave_front_alike k s h.by.1)
  leave_alike k (Over e w) o' h = record { by = (λ c. ap (leave k) (h.by.0 c), h.by.1) }

  -- ---- code that stands behind a turn

  module _ (f g : Exec) (fits : Fits W n f g) where
    run_body_alike :
        (fr : Frame) (args : List RawVal) (w : World) (t : Signature) (body : Block) → Below W n w
        → Alike W n (run_body f fr args w t body) (run_body g fr args (shift W w) t body)
    run_body_alike fr args w t body b =
        check_alike W n n w _ _
        (λ v c. leave_alike (length (results t)) _ _
        (fits.by (Run fr body.instrs) (state v (args ++ begun_locals fr.function) []) c)) b

    enter_guest_alike :
        (depth instance : ℕ) (parts : InstanceParts) (fn : FuncDecl) (args : List RawVal) (w : World) → Below W n w
        → Alike W n (enter_guest f depth instance parts fn args w)
        (enter_guest g depth instance parts fn args (shift W w))
    enter_guest_alike depth instance parts fn args w b =
        found W n w b.held (slice_get parts.decl.types fn.ty) _ _ (λ t.
        found W n w b.held (slice_get fn.blocks 0) _ _ (λ body.
        run_body_alike (frame instance parts fn (suc depth)) args w t body b))

    step_first_alike :
        (a : Activation) (w : World) → Below W n w → Alike W n (step_first f a w) (step_first g a (shift W w))
    step_first_alike a w b =
        pass_alike W n n event.CallingHost w _ _
        (λ v c. pass_behind_alike W n event.ReturningFromHost _ _ (fits.by (Step a Start) (state v [] []) c)) b

    where_has_alike :
        (a : Activation) (kinds : Bool) (answer : Answer) (w : World) → Below W n w
        → Alike W n (where_has (begin_host f a kinds) answer w) (where_has (begin_host g a kinds) answer (shift W w))
    where_has_alike a kinds (Has true) w b =
        either W n kinds _ _ _ _ (step_first_alike a w b) (over W n Stuck w b.held)
    where_has_alike a kinds (Has false) w b = over W n (Refused refusal.NoHostBody) w b.held
    where_has_alike a kinds answer w b = over W n Stuck w b.held

    enter_host_alike :
        (depth : ℕ) (t : Signature) (body : ℕ) (stored : List Extern) (args : List RawVal)
        (caller : Option ℕ) (w : World)
        → Below W n w
        → Alike W n (enter_host f depth t body stored args caller w)
        (enter_host g depth t body stored args caller (shift W w))
    enter_host_alike depth t body stored args caller w b =
        let a : Activation = activation w.machine depth t body stored args caller in
        let kinds : Bool = have_kinds (params t) args in
        hearing W (code_ends W n) n w (Having body) (where_has (begin_host f a kinds))
        (where_has (begin_host g a kinds)) b (where_has_alike a kinds)

    enter_function_alike :
        (depth : ℕ) (args : List RawVal) (caller : Option ℕ) (w : World) (fn : Function) → Below W n w
        → Alike W n (enter_function f depth args caller w fn) (enter_function g depth args caller (shift W w) fn)
    enter_function_alike depth args caller w (guest instance k) b =
        found W n w b.held (slice_get w.machine.instances instance) _ _ (λ parts.
        found W n w b.held (slice_get parts.decl.functions k) _ _
        (λ fn. enter_guest_alike depth instance parts fn args w b))
    enter_function_alike depth args caller w (host t body stored) b =
        enter_host_alike depth t body stored args caller w b

    pub enter_alike :
        (depth k : ℕ) (args : List RawVal) (caller : Option ℕ) (w : World) → Below W n w
        → Alike W n (enter f depth k args caller w) (enter g depth k args caller (shift W w))
    enter_alike depth k args caller w b =
        either W n (nat_eq depth w.machine.engine.frames) _ _ _ _ (over W n (Trapped trap.StackOverflow) w b.held)
        (found W n w b.held (slice_get w.machine.functions k) _ _ (λ fn. enter_function_alike depth args caller w fn b))

    pub entry_alike :
        (depth k : ℕ) (args : List RawVal) (caller : Option ℕ) (w : World) → Below W n w
        → Alike W n (entry f depth k args caller w) (entry g depth k args caller (shift W w))
    entry_alike depth k args caller w b =
        pass_alike W n n event.CallingWasm w _ _
        (λ v c. pass_behind_alike W n event.ReturningFromWasm _ _ (enter_alike depth k args caller v c)) b
