-- A call where no turn is left: of a hook, of code and of a body of the host nothing is done, and of the host it is asked
-- whether it has the body.
use Rattle.std.proofs.Common.{◌≡◌, ℕ, suc, List, [], ◌∷◌, ◌++◌, Option, Some, None, refl, sym, ap, ◌∙◌, subst, Bool, true, false}
use Rattle.std.proofs.lemmas.List.{append-nil}
use Rattle.std.specs.Prelude.{cond, nat_eq, slice_get, length}
use Rattle.wasm_types.specs.FunctionParts.{params, results}
use Rattle.wasm_types.specs.Signatures.{Signature}
use Rattle.wasm_meter.specs.declared.call_hook.CallHook.TheVariants as event
use Rattle.wasm_objects.specs.declared.raw.RawVal.{RawVal}
use Rattle.wasm_values.specs.declared.externals.Extern.{Extern}
use Rattle.wasm_values.specs.declared.refusals.Trap.TheVariants as trap
use Rattle.wasm_values.specs.declared.store_id.StoreId.{StoreId}
use Rattle.spec_machine.specs.FunctionCalls.{Called}
use Rattle.spec_machine.specs.Machine.{Machine, EngineParts, Function, guest, host}
use Rattle.spec_machine.specs.declared.reply.Reply.{Reply}
use Rattle.spec_execution.specs.Activations.{Activation}
use Rattle.spec_execution.specs.Askings.{Question, Having, Passing, Answer, Has, Asking, answers_in, Chain}
use Rattle.spec_execution.specs.Bodies.{exec}
use Rattle.spec_execution.specs.Checks.{passed, pass_behind}
use Rattle.spec_execution.specs.Commands.{call_reply}
use Rattle.spec_execution.specs.Entering.{frame, begun_locals, activation, step_first, begin_host, where_has, enter, enter_function, entry}
use Rattle.spec_execution.specs.Operands as on
use Rattle.spec_execution.specs.Outcomes.{World, world, state, Outcome, Over, Trapped, Stuck, hear, ask}
use Rattle.spec_execution.specs.declared.answer.Event.TheVariants.{Start}
use Rattle.store_state.specs.Machine.{run_machine}
use Rattle.store_state.specs.Parts.{ProgramParts, HeldParts}
use Rattle.code_leaps.specs.Leading.{halted, Halts}
use Rattle.code_run.specs.Asking.{Moving}
use Rattle.code_run.proofs.NoTurnLemmas.{Halted, either_halts, turn_halts, check_halts, found_halts, leave_halts, run_halts}
use Rattle.code_hosts.specs.declared.bounds.Bounds.{Bounds}
use Rattle.code_hosts.specs.Asked.{Moves}
use Rattle.code_hosts.specs.Hosting.{Body, does, opened}
use Rattle.code_hosts.specs.Operating.{IsDue, invoking}
use Rattle.code_hosts.proofs.ContextLemmas.{pass_halts, border_halts, does_halts, by_run_halts}

-- ---- from this world

module _ (depth n : ℕ) (args : List RawVal) (caller : Option ℕ) (w : World) (none : w.turns ≡ 0) where
  abbrev entered : World → Outcome
  entered v = enter exec depth n args caller v

  guest_halts : (instance k : ℕ) → Halted w (enter_function exec depth args caller w (guest instance k))
  guest_halts instance k =
      found_halts w none (slice_get w.machine.instances instance) _ (λ parts.
      found_halts w none (slice_get parts.decl.functions k) _ (λ fn.
      found_halts w none (slice_get parts.decl.types fn.ty) _ (λ t.
      found_halts w none (slice_get fn.blocks 0) _ (λ body.
      let fr = frame instance parts fn (suc depth) in
      check_halts w none _ (leave_halts (length (results t)) _ w
      (run_halts fr body.instrs (state w (args ++ begun_locals fn) []) none))))))

  -- the function is entered, where one is there
  entered_halts : (f : Option Function) → slice_get w.machine.functions n ≡ f →
      Halted w (on.found (Over Stuck w) f (enter_function exec depth args caller w)) →
      Halted w (entry exec depth n args caller w)
  entered_halts f e h =
      pass_halts event.CallingWasm w (λ v. pass_behind event.ReturningFromWasm (entered v)) none
      (border_halts event.ReturningFromWasm (entered w) w none
      (either_halts w (nat_eq depth w.machine.engine.frames) (Over (Trapped trap.StackOverflow) w)
      (on.found (Over Stuck w) (slice_get w.machine.functions n) (enter_function exec depth args caller w)) refl
      (subst (λ (x : Option Function). Halted w (on.found (Over Stuck w) x (enter_function exec depth args caller w)))
      (sym e) h)))

  -- too many are open
  overflow_halts : nat_eq depth w.machine.engine.frames ≡ true → Halted w (entry exec depth n args caller w)
  overflow_halts e =
      pass_halts event.CallingWasm w (λ v. pass_behind event.ReturningFromWasm (entered v)) none
      (border_halts event.ReturningFromWasm (entered w) w none
      (ap (λ (b : Bool). halted (cond b (Over (Trapped trap.StackOverflow) w)
      (on.found (Over Stuck w) (slice_get w.machine.functions n) (enter_function exec depth args caller w)))) e))

  hook_halts : w.machine.is_hooked ≡ true → Halted w (entry exec depth n args caller w)
  hook_halts e =
      let go : World → Outcome = λ v. pass_behind event.ReturningFromWasm (entered v) in
      subst (λ (b : Bool). Halted w (cond b (ask Over w (Passing event.CallingWasm) (passed go)) (go w))) (sym e)
      (turn_halts w none (λ v. hear Over v (Passing event.CallingWasm) (passed go) v.answers))

-- ---- a function of the host, where it is asked whether there is the body

begun_halts : (w : World) → w.turns ≡ 0 → (a : Activation) (kinds : Bool) → Halted w (begin_host exec a kinds w)
begun_halts w none a kinds =
    either_halts w kinds (step_first exec a w) (Over Stuck w)
    (pass_halts event.CallingHost w (does (Body a Start)) none (does_halts (Body a Start) w none)) refl

has_halts : (w : World) → w.turns ≡ 0 → (a : Activation) (kinds b : Bool) →
    Halted w (where_has (begin_host exec a kinds) (Has b) w)
has_halts w none a kinds true = begun_halts w none a kinds
has_halts w none a kinds false = refl

-- ---- from each world of such a store

-- what a call looks at before it runs: whether there is a hook, how many functions may be open, and which there are
pub record IsStoreOf (hooked : Bool) (frames : ℕ) (functions : List Function) (m : Machine) : Type 0 where
  pub hooked_is : m.is_hooked ≡ hooked
  pub frames_are : m.engine.frames ≡ frames
  pub functions_are : m.functions ≡ functions

-- what is heard, by which what is outside stays as it is, and where the call stands then
module _ {O : Type 0} (moves : O → Question → Answer → O → Type 0) (o : O) (hooked : Bool) (frames : ℕ)
    (functions : List Function) (depth n : ℕ) (args : List RawVal) (caller : Option ℕ) where
  abbrev calling : World → Outcome
  calling w = entry exec depth n args caller w

  pub record Idles : Type 0 where
    pub heard : List Asking
    pub chain : Chain moves o heard o
    pub halts : (m : Machine) → IsStoreOf hooked frames functions m → (before : List Asking) (rest : List Answer) →
        halted (calling (world m 0 before (answers_in heard ++ rest))) ≡ Some (world m 0 (before ++ heard) rest)

  -- nothing is heard
  unheard : ((w : World) → IsStoreOf hooked frames functions w.machine → w.turns ≡ 0 → Halted w (calling w)) → Idles
  unheard e = record {
    heard = [];
    chain = refl;
    halts = λ m x before rest.
        e (world m 0 before rest) x refl
        ∙ ap (λ (xs : List Asking). Some (world m 0 xs rest)) (sym (append-nil before));
  }

  module _ (unhooked : hooked ≡ false) (some : nat_eq depth frames ≡ false) (ty : Signature) (body : ℕ)
      (stored : List Extern) (found : slice_get functions n ≡ Some (host ty body stored)) (m : Machine)
      (x : IsStoreOf hooked frames functions m) where
    enters : (before : List Asking) (answers : List Answer) →
        calling (world m 0 before answers)
        ≡ pass_behind event.ReturningFromWasm
        (enter_function exec depth args caller (world m 0 before answers) (host ty body stored))
    enters before answers =
        let w = world m 0 before answers in
        let entering : World → Outcome =
        λ v. pass_behind event.ReturningFromWasm (enter exec depth n args caller v) in
        let one : Option Function → Outcome =
        λ f. on.found (Over Stuck w) f (enter_function exec depth args caller w) in
        ap (λ (b : Bool). cond b (ask Over w (Passing event.CallingWasm) (passed entering)) (entering w))
        (x.hooked_is ∙ unhooked)
        ∙ ap (λ (b : Bool). pass_behind event.ReturningFromWasm
        (cond b (Over (Trapped trap.StackOverflow) w) (one (slice_get m.functions n))))
        (ap (λ (k : ℕ). nat_eq depth k) x.frames_are ∙ some)
        ∙ ap (λ (f : Option Function). pass_behind event.ReturningFromWasm (one f))
        (ap (λ (fs : List Function). slice_get fs n) x.functions_are ∙ found)

    host_halts : (b : Bool) (before : List Asking) (rest : List Answer) →
        halted (calling (world m 0 before (Has b ∷ rest)))
        ≡ Some (world m 0 (before ++ (Having body, Has b) ∷ []) rest)
    host_halts b before rest =
        let v = world m 0 (before ++ (Having body, Has b) ∷ []) rest in
        let a = activation m depth ty body stored args caller in
        let kinds = on.have_kinds (params ty) args in
        ap halted (enters before (Has b ∷ rest))
        ∙ border_halts event.ReturningFromWasm (where_has (begin_host exec a kinds) (Has b) v) v refl
        (has_halts v refl a kinds b)

  -- of a host that has these bodies
  module _ (has : ℕ → Bool) (answers : (body : ℕ) → moves o (Having body) (Has (has body)) o) where
    by_frames : (b : Bool) → nat_eq depth frames ≡ b → hooked ≡ false → (ty : Signature) (body : ℕ)
        (stored : List Extern) → slice_get functions n ≡ Some (host ty body stored) → Idles
    by_frames true e unhooked ty body stored found =
        unheard (λ w x none.
        overflow_halts depth n args caller w none (ap (λ (k : ℕ). nat_eq depth k) x.frames_are ∙ e))
    by_frames false e unhooked ty body stored found = record {
      heard = (Having body, Has (has body)) ∷ [];
      chain = (o, answers body, refl);
      halts = λ m x before rest. host_halts unhooked e ty body stored found m x (has body) before rest;
    }

    by_hook : (b : Bool) → hooked ≡ b → (ty : Signature) (body : ℕ) (stored : List Extern) →
        slice_get functions n ≡ Some (host ty body stored) → Idles
    by_hook true e ty body stored found = unheard (λ w x none. hook_halts depth n args caller w none (x.hooked_is ∙ e))
    by_hook false e ty body stored found = by_frames (nat_eq depth frames) refl e ty body stored found

    by_function : (f : Option Function) → slice_get functions n ≡ f → Idles
    by_function None found =
        unheard (λ w x none.
        entered_halts depth n args caller w none None
        (ap (λ (fs : List Function). slice_get fs n) x.functions_are ∙ found) refl)
    by_function (Some (guest instance k)) found =
        unheard (λ w x none.
        entered_halts depth n args caller w none (Some (guest instance k))
        (ap (λ (fs : List Function). slice_get fs n) x.functions_are ∙ found)
        (guest_halts depth n args caller w none instance k))
    by_function (Some (host ty body stored)) found = by_hook hooked refl ty body stored found

    pub idles : Idles
    idles = by_function (slice_get functions n) refl

-- ---- of a call that a body of the host asked for

module _ {W : Type 0} (bounds : Bounds) (asks : Moving W) (program : ProgramParts) (id : StoreId)
    (engine : EngineParts) (called : Called) (depth : ℕ) (o : W)
    (can : (body : ℕ) → (b : Bool) × asks o (Having body) (Has b) o) where
  pub asked_idles : Idles (Moves bounds asks) o bounds.hooked engine.frames program.functions depth called.function
      called.arguments None
  asked_idles =
      idles (Moves bounds asks) o bounds.hooked engine.frames program.functions depth called.function called.arguments None
      (λ body. (can body).0) (λ body. (tt, tt, (can body).1))

  pub asked_halts : (go : World → Reply → Outcome) → IsDue go → (h : HeldParts) →
      Halts (opened program bounds id engine) (invoking called depth go) h 0 asked_idles.heard h
  asked_halts go due h = record {
    by = λ base x before rest.
        let m = run_machine base program h in
        let w = world m 0 before (answers_in asked_idles.heard ++ rest) in
        let is : IsStoreOf bounds.hooked engine.frames program.functions m = record {
          hooked_is = x.bounded.hooked_is;
          frames_are = ap (λ (k : EngineParts). k.frames) x.engine_is;
          functions_are = refl;
        } in
        by_run_halts (call_reply called) go due (entry exec depth called.function called.arguments None w)
        (world m 0 (before ++ asked_idles.heard) rest) refl (asked_idles.halts m is before rest);
  }
