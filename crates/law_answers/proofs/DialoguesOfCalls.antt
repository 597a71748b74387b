-- Calls are dialogues, where the code behind a turn is.
use Rattle.std.proofs.Common.{ℕ, zero, suc, ◌<◌, ◌≤◌, ◌++◌, List, [], Option, refl, arith}
use Rattle.std.specs.Prelude.{Bool, true, false, length, nat_eq, slice_get}
use Rattle.wasm_meter.specs.declared.call_hook.CallHook.TheVariants as event
use Rattle.wasm_types.specs.FunctionParts.{params, results}
use Rattle.wasm_types.specs.Signatures.{Signature}
use Rattle.wasm_syntax.specs.declared.declarations.Block.{Block}
use Rattle.wasm_syntax.specs.declared.declarations.FuncDecl.{FuncDecl}
use Rattle.wasm_values.specs.declared.externals.Extern.{Extern}
use Rattle.wasm_values.specs.declared.refusals.Refusal.TheVariants as refusal
use Rattle.wasm_values.specs.declared.refusals.Trap.TheVariants as trap
use Rattle.wasm_objects.specs.declared.raw.RawVal.{RawVal}
use Rattle.spec_machine.specs.Machine.{Function, guest, host, InstanceParts}
use Rattle.spec_execution.specs.Activations.{Activation}
use Rattle.spec_execution.specs.Askings.{Answer, Has, Having}
use Rattle.spec_execution.specs.Bodies.{exec}
use Rattle.spec_execution.specs.Checks.{pass_behind}
use Rattle.spec_execution.specs.Entering.{Code, Frame, Run, Step, leave_front, leave, begun_locals, frame, run_body, enter_guest, activation, step_first, begin_host, where_has, enter_host, enter_function, enter, entry}
use Rattle.spec_execution.specs.Operands as on
use Rattle.spec_execution.specs.Outcomes.{World, State, state, Outcome, Values, Branch, Return, Over, Trapped, Refused, Stuck}
use Rattle.spec_execution.specs.declared.answer.Event.TheVariants.{Start}
use Rattle.law_answers.proofs.Dialogues.{at, state_at, hear_reads, one_of, behind}
use Rattle.law_answers.proofs.CodeDialogues.{placed, HasTurns, code, Runs, ends_over, values, found, front}
use Rattle.law_answers.proofs.DialoguesOfChecks.{pass_reads, pass_behind_reads, check_reads}

-- code with fewer turns than n is a dialogue
pub record Keeps (n m : ℕ) : Type 0 where
  pub by : (c : Code) (s : State) → s.world.turns < n → Runs n m (λ h l. exec c (state_at s h l))

module _ (n m : ℕ) (le : n ≤ m) where
  pub early : (t : ℕ) → t < n → t < m
  early t few = omega (arith, few, le)

  -- ---- how a function is left

  leave_front_reads : (k : ℕ) (s : State) → s.world.turns < n → Runs n m (λ h l. leave_front k (state_at s h l))
  leave_front_reads k s few =
      front n m s.world (early s.world.turns few) k s.operands (λ own rest h l. Values (state_at (state s.world [] own) h l))
      (λ own rest. values n m (state s.world [] own) few)

  leave_ends : (k : ℕ) (o : Outcome) → HasTurns n m o → Runs n m (λ h l. leave k (placed o h l))
  leave_ends k (Values s) b =
      one_of (code n m) (nat_eq (length s.operands) k) _ _ (values n m (state s.world [] s.operands) b)
      (ends_over n m Stuck s.world (early s.world.turns b))
  leave_ends k (Branch zero s) b = leave_front_reads k s b
  leave_ends k (Branch (suc j) s) b = ends_over n m Stuck s.world (early s.world.turns b)
  leave_ends k (Return s) b = leave_front_reads k s b
  leave_ends k (Over e v) b = ends_over n m e v b

  leave_reads : (k : ℕ) (run : _) → Runs n m run → Runs n m (λ h l. leave k (run h l))
  leave_reads k run r = behind (code n m) (code n m) (leave k) (λ q w. refl) (leave_ends k) run r

  -- ---- code that stands behind a turn

  module _ (keeps : Keeps n m) where
    run_body_reads :
        (fr : Frame) (args : List RawVal) (w : World) (t : Signature) (body : Block) → w.turns < n
        → Runs n m (λ h l. run_body exec fr args (at w h l) t body)
    run_body_reads fr args w t body few =
        check_reads n m n w _
        (λ v c d. leave_reads (length (results t)) _
        (keeps.by (Run fr body.instrs) (state v (args ++ begun_locals fr.function) []) d))
        (early w.turns few) few

    enter_guest_reads :
        (depth instance : ℕ) (parts : InstanceParts) (fn : FuncDecl) (args : List RawVal) (w : World) → w.turns < n
        → Runs n m (λ h l. enter_guest exec depth instance parts fn args (at w h l))
    enter_guest_reads depth instance parts fn args w few =
        found n m w (early w.turns few) (slice_get parts.decl.types fn.ty) _ (λ t.
        found n m w (early w.turns few) (slice_get fn.blocks 0) _ (λ body.
        run_body_reads (frame instance parts fn (suc depth)) args w t body few))

    step_first_reads : (a : Activation) (w : World) → w.turns < n → Runs n m (λ h l. step_first exec a (at w h l))
    step_first_reads a w few =
        pass_reads n m n event.CallingHost w
        (λ v. pass_behind event.ReturningFromHost (exec (Step a Start) (state v [] [])))
        (λ v c d. pass_behind_reads n m le event.ReturningFromHost _ (keeps.by (Step a Start) (state v [] []) d))
        (early w.turns few) few

    where_has_reads :
        (a : Activation) (kinds : Bool) (w : World) → w.turns < n → (answer : Answer)
        → Runs n m (λ h l. where_has (begin_host exec a kinds) answer (at w h l))
    where_has_reads a kinds w few (Has true) =
        one_of (code n m) kinds _ _ (step_first_reads a w few) (ends_over n m Stuck w (early w.turns few))
    where_has_reads a kinds w few (Has false) = ends_over n m (Refused refusal.NoHostBody) w (early w.turns few)
    where_has_reads a kinds w few answer = ends_over n m Stuck w (early w.turns few)

    enter_host_reads :
        (depth : ℕ) (t : Signature) (body : ℕ) (stored : List Extern) (args : List RawVal) (caller : Option ℕ)
        (w : World) → w.turns < n → Runs n m (λ h l. enter_host exec depth t body stored args caller (at w h l))
    enter_host_reads depth t body stored args caller w few =
        hear_reads (code n m) w (Having body)
        (where_has (begin_host exec (activation w.machine depth t body stored args caller) (on.have_kinds (params t) args)))
        (where_has_reads (activation w.machine depth t body stored args caller) (on.have_kinds (params t) args) w few)

    enter_function_reads :
        (depth : ℕ) (args : List RawVal) (caller : Option ℕ) (w : World) (fn : Function) → w.turns < n
        → Runs n m (λ h l. enter_function exec depth args caller (at w h l) fn)
    enter_function_reads depth args caller w (guest instance j) few =
        found n m w (early w.turns few) (slice_get w.machine.instances instance) _ (λ parts.
        found n m w (early w.turns few) (slice_get parts.decl.functions j) _
        (λ fn. enter_guest_reads depth instance parts fn args w few))
    enter_function_reads depth args caller w (host t body stored) few =
        enter_host_reads depth t body stored args caller w few

    pub enter_reads :
        (depth k : ℕ) (args : List RawVal) (caller : Option ℕ) (w : World) → w.turns < n
        → Runs n m (λ h l. enter exec depth k args caller (at w h l))
    enter_reads depth k args caller w few =
        one_of (code n m) (nat_eq depth w.machine.engine.frames) _ _
        (ends_over n m (Trapped trap.StackOverflow) w (early w.turns few))
        (found n m w (early w.turns few) (slice_get w.machine.functions k) _
        (λ fn. enter_function_reads depth args caller w fn few))

    pub entry_reads :
        (depth k : ℕ) (args : List RawVal) (caller : Option ℕ) (w : World) → w.turns < n
        → Runs n m (λ h l. entry exec depth k args caller (at w h l))
    entry_reads depth k args caller w few =
        pass_reads n m n event.CallingWasm w
        (λ v. pass_behind event.ReturningFromWasm (enter exec depth k args caller v))
        (λ v c d. pass_behind_reads n m le event.ReturningFromWasm _ (enter_reads depth k args caller v d))
        (early w.turns few) few
