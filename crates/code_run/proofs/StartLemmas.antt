-- A call from outside of all code, as it begins.
use Rattle.std.proofs.Common.{◌≡◌, ℕ, suc, List, [], ◌∷◌, ◌++◌, length, Option, Some, None, refl, sym, ap, ◌∙◌, true, false, append_assoc}
use Rattle.std.specs.Prelude.{nat_eq, slice_get, option_and_then, Result, Ok, Err, OnErr}
use Rattle.std.proofs.lemmas.List.{append-nil}
use Rattle.wasm_types.specs.FunctionParts.{results}
use Rattle.wasm_syntax.specs.declared.declarations.Block.{Block as CodeBlock}
use Rattle.wasm_syntax.specs.declared.declarations.FuncDecl.{FuncDecl}
use Rattle.wasm_values.specs.declared.refusals.Trap.TheVariants as trap
use Rattle.wasm_objects.specs.declared.raw.RawVal.{RawVal}
use Rattle.spec_machine.specs.Machine.{Machine, Function, guest, host, InstanceParts}
use Rattle.spec_machine.specs.Values.{defined_type}
use Rattle.spec_execution.specs.Bodies.{exec}
use Rattle.spec_execution.specs.Checks.{check}
use Rattle.spec_execution.specs.Entering.{Run, leave, enter, enter_guest, run_body, frame, begun_locals}
use Rattle.spec_execution.specs.Operands as on
use Rattle.spec_execution.specs.Outcomes.{World, state, Outcome, Over, Stuck}
use Rattle.wasm_syntax.specs.declared.instr.Instr.{Instr}
use Rattle.store_state.specs.Parts.{ProgramParts}
use Rattle.code_stack.specs.Values.{Below, below, ValuesParts, values_parts}
use Rattle.store_state.specs.Machine.{callee_type}
use Rattle.code_leaps.specs.Calling.{IsOf, IsThere}
use Rattle.code_stack.specs.Layers.{frame_of, outwards, means}
use Rattle.code_run.specs.Steps.{seen}
use Rattle.code_leaps.specs.Turns.{going}
use Rattle.code_leaps.specs.Leading.{halted}
use Rattle.code_run.specs.Starting.{IsNumber, Starts, StartsGuest, WaitsGuest}
use Rattle.code_leaps.specs.declared.calls.Callee.{Callee}
use Rattle.code_stack.specs.declared.layers.Activation.{Activation}
use Rattle.code_stack.specs.declared.layers.Layer.{Layer}
use Rattle.code_stack.specs.declared.steps.HostCall.{HostCall}
use Rattle.code_run.specs.declared.thread.Thread.{Thread}
use Rattle.code_run.specs.declared.starts.Started.TheVariants as started
use Rattle.code_stack.specs.declared.steps.Fault.TheVariants as fault
use Rattle.code_leaps.proofs.StoreLemmas.{shallow, guest_is, typed_by}
use Rattle.code_leaps.proofs.Callees.{enter_deep, enter_found, enter_none, enters_host, enter_bodiless, enter_is}
use Rattle.code_leaps.proofs.CheckLemmas.{check_alike}
use Rattle.code_run.proofs.NoTurnLemmas.{check_halts, leave_halts, run_halts}

-- what holds anyway holds on an error
pub on_err : {A E P : Type 0} (r : Result A E) → P → OnErr r P
on_err (Ok a) p = tt
on_err (Err e) p = p

-- one more local, and all of them
pub added_more : (old : ValuesParts) (x : RawVal) (tail : List RawVal) →
    values_parts old.operands ((old.locals ++ x ∷ []) ++ tail) old.below old.room
    ≡ values_parts old.operands (old.locals ++ x ∷ tail) old.below old.room
added_more old x tail =
    ap (λ locals. values_parts old.operands locals old.below old.room) (append_assoc old.locals (x ∷ []) tail)

pub added_all : (v : ValuesParts) → values_parts v.operands (v.locals ++ []) v.below v.room ≡ v
added_all v = ap (λ locals. values_parts v.operands locals v.below v.room) (append-nil v.locals)

-- ---- functions without a type or a body

module _ (w : World) (number depth : ℕ) (instance : ℕ) (args : List RawVal) where
  by_type : (parts : InstanceParts) (fn : FuncDecl) → slice_get parts.decl.types fn.ty ≡ None →
      enter_guest exec depth instance parts fn args w ≡ Over Stuck w
  by_type parts fn e = ap (λ o. on.found (Over Stuck w) o (λ t. on.found (Over Stuck w) (slice_get fn.blocks 0)
      (run_body exec (frame instance parts fn (suc depth)) args w t))) e

  by_function : (parts : InstanceParts) (o : Option FuncDecl) →
      option_and_then (λ (f : FuncDecl). slice_get parts.decl.types f.ty) o ≡ None →
      on.found (Over Stuck w) o (λ fn. enter_guest exec depth instance parts fn args w) ≡ Over Stuck w
  by_function parts None e = refl
  by_function parts (Some fn) e = by_type parts fn e

  by_instance : (o : Option InstanceParts) → option_and_then (λ i. defined_type i number) o ≡ None →
      on.found (Over Stuck w) o (λ parts. on.found (Over Stuck w) (slice_get parts.decl.functions number)
      (λ fn. enter_guest exec depth instance parts fn args w)) ≡ Over Stuck w
  by_instance None e = refl
  by_instance (Some parts) e = by_function parts (slice_get parts.decl.functions number) e

-- ---- what entering a function comes to

module _ (program : ProgramParts) (frames depth n : ℕ) (args : List RawVal) where
  pub starts_deep : depth ≡ frames →
      Starts program frames depth n args (started.Fails (fault.Trapped trap.StackOverflow))
  starts_deep e = λ caller w h. enter_deep n args caller w depth (e ∙ sym h.frames_are)

  module _ (some : depth ≡ frames → ⊥) where
    low : (m : Machine) → IsOf program frames m → nat_eq depth m.engine.frames ≡ false
    low m h = shallow program frames m h depth some

    function_of : (f : Function) → slice_get program.functions n ≡ Some f → (m : Machine) → IsOf program frames m →
        slice_get m.functions n ≡ Some f
    function_of f e m h = ap (λ fs. slice_get fs n) h.functions ∙ e

    pub starts_none : slice_get program.functions n ≡ None →
        Starts program frames depth n args (started.Fails fault.Stuck)
    starts_none e = λ caller w h.
        enter_none n args caller w depth (low w.machine h) (ap (λ fs. slice_get fs n) h.functions ∙ e)

    pub starts_host : (call : HostCall) →
        slice_get program.functions n ≡ Some (host call.ty.now call.body call.stored.now) →
        Starts program frames depth n args (started.Calls call)
    starts_host call e = λ caller w h.
        enters_host n args caller w depth (low w.machine h) call.ty.now call.body call.stored.now
        (function_of (host call.ty.now call.body call.stored.now) e w.machine h)

-- the state of a function that was entered, with nothing around it
pub entered_means : (a : Activation) (code : List Instr) (ls : List Layer) (v : ValuesParts) (locals : List RawVal)
    (w : World) → ls ≡ [] → v.operands ≡ [] → v.locals ≡ locals → v.below ≡ below ([] ∷ []) ([] ∷ []) →
    leave a.results (exec (Run (frame_of a) code) (state w locals []))
    ≡ means (record { activation = a; code = code; layers = ls; values = v }) w
entered_means a code ls v locals w es eo el eb =
    let due : List Layer → Below → List RawVal → List RawVal → Outcome = λ ls b own ops.
    outwards a ls b.operands b.locals (exec (Run (frame_of a) code) (state w own ops)) in
    ap (λ own. due [] (below ([] ∷ []) ([] ∷ [])) own []) (sym el)
    ∙ ap (λ ops. due [] (below ([] ∷ []) ([] ∷ [])) v.locals ops) (sym eo)
    ∙ ap (λ b. due [] b v.locals v.operands) (sym eb)
    ∙ ap (λ ls. due ls v.below v.locals v.operands) (sym es)

module _ (program : ProgramParts) (instance number depth : ℕ) (args : List RawVal) where
  pub starts_untyped : callee_type program instance number ≡ None →
      StartsGuest program instance number depth args (started.Fails fault.Stuck)
  starts_untyped e = λ frames n i caller w h.
      let m = w.machine in
      enter_found n args caller w depth (low program frames depth n args i.0 m h) (Some (guest instance number))
      (function_of program frames depth n args i.0 (guest instance number) i.1 m h)
      ∙ by_instance w number depth instance args (slice_get m.instances instance)
      (typed_by program frames m h (guest instance number) ∙ e)

  module _ (c : Callee) (x : IsThere program instance number c) where
    -- the function as it runs
    abbrev pub running : ℕ → Activation
    running count = record {
      instance = instance;
      «module» = c.«module»;
      function = c.function;
      results = count;
      depth = suc depth;
    }

    pub starts_bodiless : None ≡ slice_get c.function.now.blocks 0 →
        StartsGuest program instance number depth args (started.Fails fault.Stuck)
    starts_bodiless en = λ frames n i caller w h.
        enter_bodiless n args caller w depth (low program frames depth n args i.0 w.machine h) (running 0) c.ty.now
        (guest_is program frames w.machine h n instance number c 0 (suc depth) i.1 x) refl (sym en)

    module _ (body : CodeBlock) (eb : Some body ≡ slice_get c.function.now.blocks 0) (count : ℕ)
        (ec : count ≡ length (results c.ty.now)) where
      entered : (frames n : ℕ) → IsNumber program instance number depth frames n → (caller : Option ℕ) (w : World) →
          IsOf program frames w.machine →
          enter exec depth n args caller w ≡ check w (λ v. leave count (exec (Run (frame_of (running count)) body.instrs)
          (state v (args ++ begun_locals c.function.now) [])))
      entered frames n i caller w h =
          enter_is n args caller w depth (low program frames depth n args i.0 w.machine h) (running count) c.ty.now body
          (guest_is program frames w.machine h n instance number c count (suc depth) i.1 x) refl (sym eb) ec

      pub guest_starts : (t : Thread) → t.unchecked ≡ true → t.activation ≡ running count → t.code.now ≡ body.instrs →
          t.layers ≡ [] → t.values.operands ≡ [] → t.values.locals ≡ args ++ begun_locals c.function.now →
          t.values.below ≡ below ([] ∷ []) ([] ∷ []) →
          StartsGuest program instance number depth args (started.Runs t)
      guest_starts t eu ea ek es eo el ev = λ frames n i caller w h.
          entered frames n i caller w h
          ∙ check_alike _ (means (seen t)) (λ v.
          ap (λ (a : Activation). leave a.results (exec (Run (frame_of a) body.instrs)
          (state v (args ++ begun_locals c.function.now) []))) (sym ea)
          ∙ ap (λ is. leave t.activation.results (exec (Run (frame_of t.activation) is)
          (state v (args ++ begun_locals c.function.now) []))) (sym ek)
          ∙ entered_means t.activation t.code.now t.layers t.values (args ++ begun_locals c.function.now) v es eo el ev) w
          ∙ ap (λ b. going b (seen t) w) (sym eu)

      pub guest_waits : WaitsGuest program instance number depth args
      guest_waits = λ frames n i caller w h none.
          ap halted (entered frames n i caller w h)
          ∙ check_halts w none (λ v. leave count (exec (Run (frame_of (running count)) body.instrs)
          (state v (args ++ begun_locals c.function.now) [])))
          (leave_halts count (exec (Run (frame_of (running count)) body.instrs)
          (state w (args ++ begun_locals c.function.now) [])) w
          (run_halts (frame_of (running count)) body.instrs (state w (args ++ begun_locals c.function.now) []) none))
