-- A call of a function ends with results of its type, or early.
use Rattle.std.proofs.Common.{◌≡◌, ℕ, zero, suc, Bool, true, false, if◌then◌else◌, List, [], ◌∷◌, ◌++◌, length, reverse, slice_get, Option, Some, None, refl, sym, ap, ◌∙◌, subst, append-nil}
use Rattle.std.specs.Prelude.{nat_eq}
use Rattle.std.proofs.lemmas.Bool.{eq-eqb}
use Rattle.std.proofs.lemmas.List.{length-reverse}
use Rattle.std.proofs.lemmas.Option.{same_Some, none-some, option_and_then_some}
use Rattle.wasm_types.specs.FunctionParts.{params, results}
use Rattle.wasm_types.specs.Signatures.{Signature}
use Rattle.wasm_types.proofs.MatchingLemmas.{no}
use Rattle.wasm_types.specs.declared.value_types.ValType.{ValType}
use Rattle.wasm_syntax.specs.Contexts.{Context, params_of, results_of}
use Rattle.wasm_syntax.specs.Typing.{onto, ends_in, typing_to, most_nested, body_fits}
use Rattle.wasm_syntax.specs.declared.declarations.Block.{Block}
use Rattle.wasm_meter.specs.declared.call_hook.CallHook.{CallHook}
use Rattle.wasm_meter.specs.declared.call_hook.CallHook.TheVariants as event
use Rattle.wasm_values.specs.declared.externals.Extern.{Extern}
use Rattle.wasm_values.specs.declared.refusals.Trap.TheVariants as trap
use Rattle.wasm_objects.specs.declared.raw.RawVal.{RawVal}
use Rattle.spec_machine.specs.Machine.{Function, guest, host}
use Rattle.spec_machine.specs.Values.{type_of_function, function_type}
use Rattle.spec_execution.specs.Askings.{Having, Answer, Has}
use Rattle.spec_execution.specs.Checks.{passing_end, pass_behind}
use Rattle.spec_execution.specs.Entering.{Frame, Exec, Run, Step, leave_front, leave, begun_locals, frame, run_body, enter_guest, activation, step_first, begin_host, where_has, enter_host, enter_function, enter, entry}
use Rattle.spec_execution.specs.Activations.{Activation}
use Rattle.spec_execution.specs.Operands as on
use Rattle.spec_execution.specs.Outcomes.{World, State, state, Outcome, Values, Branch, Return, Over, End, Trapped, Refused, Stopped, Waiting, Exhausted, Stuck}
use Rattle.spec_execution.specs.declared.answer.Event.TheVariants.{Start}
use Rattle.law_code.specs.Good.{CodeMayRun, context_of, IsGoodWorld, IsGood, IsGoodEnd, IsOnTop, IsGoodOutcome, IsReturned}
use Rattle.law_code.specs.Runs.{IsSoundExec}
use Rattle.law_code.specs.Typed.{HaveTypes}
use Rattle.law_code.proofs.Checks.{passes, checks}
use Rattle.law_code.proofs.Combinators.{at_found, front_of}
use Rattle.law_code.proofs.Ends.{innermost, ends_good}
use Rattle.law_code.proofs.Functions.{IsDefined, defined, typed_of, defaults_of, begun_have}
use Rattle.law_code.proofs.IndexLemmas.{type_later}
use Rattle.law_code.proofs.TypedValues.{have_their_kinds, have_later, have_append, have_length}
use Rattle.law_code.proofs.Worlds.{home_later, IsAnswered, hears}

module _ (base : World) where
  early : (res : List ValType) (e : End) (w : World) → IsGoodEnd base e w → IsReturned base res (Over e w)
  early res e w h = h

  -- results alone, whatever the locals
  results_good : (lks : List ValType) (s : State) (res ts : List ValType) (front : List RawVal) →
      IsGood base lks ts s → HaveTypes s.world.machine (reverse res) front →
      IsGood base [] (onto res []) (state s.world [] front)
  results_good lks s res ts front g h = record {
    world = g.world;
    locals_are = tt;
    operands_are = subst (λ us. HaveTypes s.world.machine us front) (sym (append-nil (reverse res))) h;
  }

  -- ---- a border behind a call

  passes_end : (res : List ValType) (event : CallHook) (w : World) (e : End) → IsGoodEnd base e w →
      IsReturned base res (passing_end event w e)
  passes_end res event w (Trapped t) g =
      passes base (IsReturned base res) (early res) w (Over (Trapped t)) (λ v n. n.good) event g
  passes_end res event w (Refused why) g =
      passes base (IsReturned base res) (early res) w (Over (Refused why)) (λ v n. n.good) event g
  passes_end res event w Stopped g = g
  passes_end res event w (Waiting q) g = g
  passes_end res event w Exhausted g = g
  passes_end res event w Stuck g = g

  pub passes_behind : (res : List ValType) (event : CallHook) (o : Outcome) → IsReturned base res o →
      IsReturned base res (pass_behind event o)
  passes_behind res event (Values s) g =
      passes base (IsReturned base res) (early res) s.world (λ w. Values (record s { world = w }))
      (λ v n. record {
        world = n.good;
        locals_are =
            have_later s.world.machine v.machine n.since.store g.world.well.functions_are [] s.locals g.locals_are;
        operands_are =
            have_later s.world.machine v.machine n.since.store g.world.well.functions_are (onto res []) s.operands
            g.operands_are;
      })
      event g.world
  passes_behind res event (Over e w) g = passes_end res event w e g
  passes_behind res event (Branch l s) g = absurd g
  passes_behind res event (Return s) g = absurd g

  -- ---- a function of an instance

  front_good : (lks res : List ValType) (s : State) → IsOnTop base lks res s →
      IsReturned base res (leave_front (length res) s)
  front_good lks res s h =
      front_of (IsReturned base res) s.world.machine (Over Stuck s.world) (reverse res) h.rest (length res)
      s.operands (λ front rest. Values (state s.world [] front)) h.good.operands_are (sym (length-reverse res))
      (λ front rest hf hr. results_good lks s res (onto res h.rest) front h.good hf)

  leave_good : (lks res : List ValType) (o : Outcome) →
      IsGoodOutcome base lks res (res ∷ []) (IsGood base lks (reverse res)) o →
      IsReturned base res (leave (length res) o)
  leave_good lks res (Values s) h =
      let as_many : nat_eq (length s.operands) (length res) ≡ true =
      eq-eqb (length s.operands) (length res)
      (have_length s.world.machine (reverse res) s.operands h.operands_are ∙ length-reverse res) in
      subst (λ b. IsReturned base res (if b then Values (state s.world [] s.operands) else Over Stuck s.world))
      (sym as_many) (results_good lks s res (reverse res) s.operands h h.operands_are)
  leave_good lks res (Branch zero s) h = front_good lks res s (innermost base lks res [] s h)
  leave_good lks res (Branch (suc l) s) h = absurd (none-some h.label h.found)
  leave_good lks res (Return s) h = front_good lks res s h
  leave_good lks res (Over e w) h = h

  -- the body of a function that is well typed
  body_there : (c : Context) (o : Option Block) → body_fits c o ≡ true →
      (b : Block) × (o ≡ Some b) × (ends_in c.results (typing_to c most_nested (c.results ∷ []) [] b.instrs) ≡ true)
  body_there c None e = no e
  body_there c (Some b) e = (b, refl, e)

  module _ (f : Exec) (sound : IsSoundExec f) where
    guest_good : (w : World) (depth instance n : ℕ) (own : Signature) (args : List RawVal)
        (d : IsDefined w.machine instance n own) → IsGoodWorld base w → HaveTypes w.machine (params own) args →
        IsReturned base (results own) (enter_guest f depth instance d.parts d.function args w)
    guest_good w depth instance n own args d g h =
        let fr : Frame = frame instance d.parts d.function (suc depth) in
        let c : Context = context_of fr in
        let b : (b : Block) × (slice_get d.function.blocks 0 ≡ Some b) ×
        (ends_in c.results (typing_to c most_nested (c.results ∷ []) [] b.instrs) ≡ true) =
        body_there c (slice_get d.function.blocks 0) (typed_of w.machine g.well instance n own d) in
        at_found (IsReturned base (results own)) (Over Stuck w) (slice_get d.parts.decl.types d.function.ty) own
        (λ t. on.found (Over Stuck w) (slice_get d.function.blocks 0) (run_body f fr args w t)) d.is
        (at_found (IsReturned base (results own)) (Over Stuck w) (slice_get d.function.blocks 0) b.0
        (run_body f fr args w own) b.1
        (checks base (IsReturned base (results own)) (early (results own)) w
        (λ v. leave (length (results own)) (f (Run fr b.0.instrs) (state v (args ++ begun_locals d.function) [])))
        (λ v next paid.
        let o : Outcome = f (Run fr b.0.instrs) (state v (args ++ begun_locals d.function) []) in
        let may : CodeMayRun v fr = record {
          home = home_later w.machine v.machine fr next.since.store
              (record { parts = d.parts; found = d.found; same = refl });
          paid = paid;
        } in
        let good : IsGood base c.locals [] (state v (args ++ begun_locals d.function) []) = record {
          world = next.good;
          locals_are = have_append v.machine (params_of (slice_get d.parts.decl.types d.function.ty)) d.function.locals
              args (begun_locals d.function)
              (subst (λ tys. HaveTypes v.machine tys args) (sym (ap params_of d.is))
              (have_later w.machine v.machine next.since.store g.well.functions_are (params own) args h))
              (begun_have v.machine d.function.locals (defaults_of w.machine g.well instance n own d));
          operands_are = tt;
        } in
        subst (λ res. IsReturned base res (leave (length res) o)) (ap results_of d.is)
        (leave_good c.locals c.results o
        (ends_good base c.locals c.results (c.results ∷ []) c.results
        (typing_to c most_nested (c.results ∷ []) [] b.0.instrs) o b.2
        (sound.runs base fr (c.results ∷ []) most_nested [] b.0.instrs (state v (args ++ begun_locals d.function) [])
        may good)))) g))

    -- ---- a function of the host

    first_good : (a : Activation) (w : World) → IsGoodWorld base w →
        IsReturned base a.results (step_first f a w)
    first_good a w g =
        passes base (IsReturned base a.results) (early a.results) w
        (λ v. pass_behind event.ReturningFromHost (f (Step a Start) (state v [] [])))
        (λ v n. passes_behind a.results event.ReturningFromHost (f (Step a Start) (state v [] []))
        (sound.steps base a Start (state v [] []) n.good)) event.CallingHost g

    has_good : (w : World) (body : ℕ) (act : Activation) (kinds : Bool) → kinds ≡ true → (a : Answer) (v : World) →
        IsAnswered base w (Having body) a v →
        IsReturned base act.results (where_has (begin_host f act kinds) a v)
    has_good w body act kinds e (Has true) v h =
        subst (λ b. IsReturned base act.results (begin_host f act b v)) (sym e) (first_good act v h.next.good)
    has_good w body act kinds e (Has false) v h = h.next.good
    has_good w body act kinds e _ v h = no h.fits

    host_good : (w : World) (depth : ℕ) (t : Signature) (body : ℕ) (stored : List Extern) (args : List RawVal)
        (caller : Option ℕ) → IsGoodWorld base w → HaveTypes w.machine (params t) args →
        IsReturned base (results t) (enter_host f depth t body stored args caller w)
    host_good w depth t body stored args caller g h =
        let act : Activation = activation w.machine depth t body stored args caller in
        let kinds : Bool = on.have_kinds (params t) args in
        hears base Over (IsReturned base (results t)) (early (results t)) w (Having body)
        (where_has (begin_host f act kinds)) g
        (λ a v given same. has_good w body act kinds (have_their_kinds w.machine (params t) args h) a v given)

    -- ---- a function of either kind

    function_good : (w : World) (depth : ℕ) (args : List RawVal) (caller : Option ℕ) (fun : Function)
        (own : Signature) → type_of_function w.machine fun ≡ Some own → IsGoodWorld base w →
        HaveTypes w.machine (params own) args →
        IsReturned base (results own) (enter_function f depth args caller w fun)
    function_good w depth args caller (host t body stored) own e g h =
        subst (λ u. IsReturned base (results u) (enter_host f depth t body stored args caller w))
        (same_Some t own e)
        (host_good w depth t body stored args caller g
        (subst (λ u. HaveTypes w.machine (params u) args) (sym (same_Some t own e)) h))
    function_good w depth args caller (guest instance n) own e g h =
        let d : IsDefined w.machine instance n own = defined w.machine g.well instance n own e in
        at_found (IsReturned base (results own)) (Over Stuck w) (slice_get w.machine.instances instance) d.parts
        (λ parts. on.found (Over Stuck w) (slice_get parts.decl.functions n) (λ function.
        enter_guest f depth instance parts function args w)) d.found
        (at_found (IsReturned base (results own)) (Over Stuck w) (slice_get d.parts.decl.functions n) d.function
        (λ function. enter_guest f depth instance d.parts function args w) d.defined
        (guest_good w depth instance n own args d g h))

    enter_if : (b : Bool) (w : World) (depth n : ℕ) (args : List RawVal) (caller : Option ℕ) (own : Signature) →
        function_type w.machine n ≡ Some own → IsGoodWorld base w → HaveTypes w.machine (params own) args →
        IsReturned base (results own)
        (if b then Over (Trapped trap.StackOverflow) w
        else on.found (Over Stuck w) (slice_get w.machine.functions n) (enter_function f depth args caller w))
    enter_if true w depth n args caller own e g h = g
    enter_if false w depth n args caller own e g h =
        option_and_then_some (type_of_function w.machine) (slice_get w.machine.functions n) own e
        (λ fun p q.
        at_found (IsReturned base (results own)) (Over Stuck w) (slice_get w.machine.functions n) fun
        (enter_function f depth args caller w) p (function_good w depth args caller fun own q g h))

    pub enter_good : (w : World) (depth n : ℕ) (args : List RawVal) (caller : Option ℕ) (own : Signature) →
        function_type w.machine n ≡ Some own → IsGoodWorld base w → HaveTypes w.machine (params own) args →
        IsReturned base (results own) (enter f depth n args caller w)
    enter_good w depth n args caller own e g h =
        enter_if (nat_eq depth w.machine.engine.frames) w depth n args caller own e g h

    -- a call from outside of all code, between two borders
    pub entry_good : (w : World) (depth n : ℕ) (args : List RawVal) (caller : Option ℕ) (own : Signature) →
        function_type w.machine n ≡ Some own → IsGoodWorld base w → HaveTypes w.machine (params own) args →
        IsReturned base (results own) (entry f depth n args caller w)
    entry_good w depth n args caller own e g h =
        passes base (IsReturned base (results own)) (early (results own)) w
        (λ v. pass_behind event.ReturningFromWasm (enter f depth n args caller v))
        (λ v next.
        passes_behind (results own) event.ReturningFromWasm (enter f depth n args caller v)
        (enter_good v depth n args caller own (type_later w.machine v.machine n own g.well next.since.store e) next.good
        (have_later w.machine v.machine next.since.store g.well.functions_are (params own) args h))) event.CallingWasm g
