-- Calls of a thread: what they come to in each store of the program.
use Rattle.std.proofs.Common.{◌≡◌, ℕ, suc, ◌≤◌, ◌<◌, List, [], ◌∷◌, ◌++◌, length, Some, None, refl, sym, ap, ◌∙◌, append_assoc}
use Rattle.std.specs.Prelude.{slice_get, option_and_then, take, drop, reverse}
use Rattle.wasm_types.specs.FunctionParts.{params, results}
use Rattle.wasm_syntax.specs.declared.declarations.Block.{Block as CodeBlock}
use Rattle.wasm_values.specs.declared.refusals.Trap.TheVariants as trap
use Rattle.wasm_types.specs.declared.value_types.ValType.{ValType}
use Rattle.wasm_values.specs.Values.{default_of}
use Rattle.std.proofs.lemmas.List.{append-nil}
use Rattle.spec_machine.specs.Machine.{Machine, guest, host}
use Rattle.spec_machine.specs.Values.{function_type, type_of_function}
use Rattle.spec_execution.specs.Checks.{check}
use Rattle.spec_execution.specs.Entering.{begun, begun_locals}
use Rattle.store_state.specs.Parts.{ProgramParts}
use Rattle.wasm_objects.specs.declared.raw.RawVal.{RawVal}
use Rattle.code_stack.specs.Values.{below, ValuesParts, values_parts, HasEntered}
use Rattle.store_state.specs.Machine.{callee_type}
use Rattle.code_leaps.specs.Calling.{IsOf, IsThere, begun_values}
use Rattle.code_run.specs.Calling.{CallsAs, CallsHost}
use Rattle.code_stack.specs.Layers.{means}
use Rattle.code_stack.specs.Steps.{HasCalled}
use Rattle.code_run.specs.Steps.{seen}
use Rattle.code_leaps.specs.declared.calls.Callee.{Callee}
use Rattle.code_stack.specs.declared.layers.Caller.{Caller}
use Rattle.code_stack.specs.declared.layers.Layer.TheVariants as layer
use Rattle.code_stack.specs.declared.steps.Fault.TheVariants as fault
use Rattle.code_stack.specs.declared.steps.HostCall.{HostCall}
use Rattle.code_stack.specs.declared.steps.Step.TheVariants.{Checks, Fails, Calls}
use Rattle.code_run.specs.declared.thread.Thread.{Thread}
use Rattle.code_leaps.proofs.Callees.{call_untyped, call_few, call_deep, call_host, call_bodiless, call_guest}
use Rattle.code_leaps.proofs.StoreLemmas.{function_is, guest_type, typed, guest_is, shallow}

-- one more local
pub begun_more : (old : ValuesParts) (t : ValType) (tail : List ValType) →
    values_parts old.operands ((old.locals ++ begun (default_of t) ∷ []) ++ begun_values tail) old.below old.room
    ≡ values_parts old.operands (old.locals ++ begun_values (t ∷ tail)) old.below old.room
begun_more old t tail =
    ap (λ locals. values_parts old.operands locals old.below old.room)
    (append_assoc old.locals (begun (default_of t) ∷ []) (begun_values tail))

pub begun_all : (v : ValuesParts) → values_parts v.operands (v.locals ++ begun_values []) v.below v.room ≡ v
begun_all v = ap (λ locals. values_parts v.operands locals v.below v.room) (append-nil v.locals)

-- a function was entered, and then its declared locals were added
pub has_called : (count n : ℕ) → count ≡ n → (added : List RawVal) (old mid new : ValuesParts) →
    HasEntered count old mid → new ≡ values_parts mid.operands (mid.locals ++ added) mid.below mid.room →
    HasCalled n added old new
has_called count n ec added old mid new h e = record {
  operands = ap (λ (v : ValuesParts). v.operands) e ∙ h.operands;
  locals =
      ap (λ (v : ValuesParts). v.locals) e ∙ ap (λ xs. xs ++ added) h.locals
      ∙ ap (λ k. reverse (take k old.operands) ++ added) ec;
  below =
      ap (λ (v : ValuesParts). v.below) e ∙ h.below
      ∙ ap (λ k. below (drop k old.operands ∷ old.below.operands) (old.locals ∷ old.below.locals)) ec;
}

-- ---- what calls come to

module _ (program : ProgramParts) (frames n : ℕ) (old new : Thread) where
  pub calls_none : slice_get program.functions n ≡ None → CallsAs (IsOf program frames) n old (Fails fault.Stuck) new
  calls_none e = λ w h.
      call_untyped (seen old) w n (ap (λ o. option_and_then (type_of_function w.machine) o)
      (ap (λ fs. slice_get fs n) h.functions ∙ e))

  module _ (instance number : ℕ) (e : slice_get program.functions n ≡ Some (guest instance number)) where
    pub calls_untyped : callee_type program instance number ≡ None →
        CallsAs (IsOf program frames) n old (Fails fault.Stuck) new
    calls_untyped en = λ w h. call_untyped (seen old) w n (guest_type program frames w.machine h n instance number e
        ∙ en)

    module _ (c : Callee) (x : IsThere program instance number c) where
      pub calls_few : length old.values.operands < length (params c.ty.now) →
          CallsAs (IsOf program frames) n old (Fails fault.Stuck) new
      calls_few lt = λ w h. call_few (seen old) w n c.ty.now (length (params c.ty.now))
          (typed program frames w.machine h n instance number c e x) refl lt

      module _ (le : length (params c.ty.now) ≤ length old.values.operands) where
        pub calls_deep : old.activation.depth ≡ frames →
            CallsAs (IsOf program frames) n old (Fails (fault.Trapped trap.StackOverflow)) new
        calls_deep d = λ w h.
            call_deep (seen old) w n c.ty.now (length (params c.ty.now))
            (typed program frames w.machine h n instance number c e x) refl le (d ∙ sym h.frames_are)

        module _ (other : old.activation.depth ≡ frames → ⊥) (depth : ℕ) (ed : depth ≡ suc old.activation.depth) where
          pub calls_bodiless : slice_get c.function.now.blocks 0 ≡ None →
              CallsAs (IsOf program frames) n old (Fails fault.Stuck) new
          calls_bodiless en = λ w h.
              call_bodiless (seen old) w n c.ty.now (length (params c.ty.now))
              (typed program frames w.machine h n instance number c e x) refl le
              (shallow program frames w.machine h old.activation.depth other) _ c.ty.now
              (guest_is program frames w.machine h n instance number c 0 depth e x) ed en

          pub calls_goes : (body : CodeBlock) (count : ℕ) → slice_get c.function.now.blocks 0 ≡ Some body →
              count ≡ length (results c.ty.now) →
              (q : Caller) → q.activation ≡ old.activation → q.rest.now ≡ old.code.now → (v : ValuesParts) →
              HasCalled (length (params c.ty.now)) (begun_locals c.function.now) old.values v →
              seen new ≡ record {
                activation = record {
                  instance = instance;
                  «module» = c.«module»;
                  function =
                      c.function;
                  results = count;
                  depth = depth;
                };
                code = body.instrs;
                layers =
                    layer.Call q ∷ old.layers;
                values = v;
              } →
              CallsAs (IsOf program frames) n old Checks new
          calls_goes body count eb ec q eq er v hv en = λ w h.
              call_guest (seen old) w n c.ty.now (length (params c.ty.now))
              (typed program frames w.machine h n instance number c e x) refl le
              (shallow program frames w.machine h old.activation.depth other) _ q body c.ty.now v
              (guest_is program frames w.machine h n instance number c count depth e x)
              ed eb ec eq er hv
              ∙ ap (λ x. check w (means x)) (sym en)

module _ (frames : ℕ) (call : HostCall) (old : Thread) where
  host_type : (program : ProgramParts) (n : ℕ) (m : Machine) → IsOf program frames m →
      slice_get program.functions n ≡ Some (host call.ty.now call.body call.stored.now) →
      function_type m n ≡ Some call.ty.now
  host_type program n m h e = ap (λ o. option_and_then (type_of_function m) o)
      (function_is program frames m h n (host call.ty.now call.body call.stored.now) e)

  pub host_few : length old.values.operands < length (params call.ty.now) →
      CallsHost frames call old (Fails fault.Stuck) old
  host_few lt = λ program n e w h. call_few (seen old) w n call.ty.now (length (params call.ty.now))
      (host_type program n w.machine h e) refl lt

  module _ (le : length (params call.ty.now) ≤ length old.values.operands) where
    pub host_deep : old.activation.depth ≡ frames →
        CallsHost frames call old (Fails (fault.Trapped trap.StackOverflow)) old
    host_deep d = λ program n e w h.
        call_deep (seen old) w n call.ty.now (length (params call.ty.now)) (host_type program n w.machine h e) refl le
        (d ∙ sym h.frames_are)

    pub host_calls : (old.activation.depth ≡ frames → ⊥) → CallsHost frames call old (Calls call) old
    host_calls other = λ program n e w h.
        call_host (seen old) w n call.ty.now (length (params call.ty.now)) (host_type program n w.machine h e) refl le
        (shallow program frames w.machine h old.activation.depth other) call refl
        (function_is program frames w.machine h n (host call.ty.now call.body call.stored.now) e)
