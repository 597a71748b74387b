-- A function of an instance that is called within the loop over leaps, by its index or by the element of a table.
use Rattle.std.proofs.Common.{◌≡◌, ℕ, ◌-◌, ◌≤◌, List, ◌∷◌, length, take, Option, Some, None, Bool, true, refl, sym, ap, ◌∙◌, subst, arith}
use Rattle.std.specs.Prelude.{IfSome, cond, slice_get, option_map, option_and_then}
use Rattle.std.proofs.lemmas.List.{length-reverse, length-take-le}
use Rattle.wasm_types.specs.FunctionParts.{params}
use Rattle.wasm_types.specs.Signatures.{Signature}
use Rattle.wasm_syntax.specs.declared.instr.Instr.{Instr}
use Rattle.wasm_syntax.specs.declared.instr.Instr.TheVariants as i
use Rattle.wasm_values.specs.declared.refusals.Trap.TheVariants as trap
use Rattle.wasm_objects.specs.Tables.{Table}
use Rattle.wasm_objects.specs.declared.raw.RawRef.{RawRef}
use Rattle.wasm_objects.specs.declared.raw.RawVal.{RawVal}
use Rattle.spec_machine.specs.Machine.{InstanceParts}
use Rattle.spec_machine.specs.Values.{function_type}
use Rattle.spec_execution.specs.Bodies.{stuck, element, callee, signed_by, call, one, exec}
use Rattle.spec_execution.specs.Entering.{Frame, begun_locals}
use Rattle.spec_execution.specs.Operands as on
use Rattle.spec_execution.specs.Outcomes.{World, State, state, Outcome, Over, Trapped}
use Rattle.store_state.specs.Machine.{function_number}
use Rattle.store_state.specs.Parts.{Names, ProgramParts, HeldParts}
use Rattle.code_stack.specs.Cuts.{RowParts}
use Rattle.code_stack.specs.Reading.{TakesI32}
use Rattle.code_straight.specs.Frames.{topmost}
use Rattle.code_leaps.specs.Calling.{names_of, IsOf, begun_values}
use Rattle.code_leaps.specs.Choosing.{table_in, IsElement}
use Rattle.code_stack.specs.Layers.{Configuration, frame_of, frame_at, state_at, owing, means}
use Rattle.code_leaps.specs.Leaps.{placed, IsCalledAs, HasEnteredAs, LeapsTo}
use Rattle.code_leaps.specs.Rounds.{Lets}
use Rattle.code_leaps.specs.Running.{executing}
use Rattle.code_stack.specs.Steps.{HasCalled}
use Rattle.code_stack.specs.declared.layers.Activation.{Activation}
use Rattle.code_stack.specs.declared.layers.Layer.{Layer}
use Rattle.code_stack.specs.declared.layers.Layer.TheVariants as layer
use Rattle.code_leaps.specs.declared.leap_calls.Called.{Called}
use Rattle.code_leaps.specs.declared.rounds.Hop.{Hop}
use Rattle.code_leaps.proofs.StoreLemmas.{typed, shallow, guest_is, typed_is, found_table}
use Rattle.code_leaps.proofs.Callees.{call_guest}
use Rattle.code_leaps.proofs.OperandLemmas.{i32_takes}

-- ---- the call of a number

module _ (program : ProgramParts) (frames n : ℕ) (old new : Configuration) (x : Called)
    (c : IsCalledAs program frames old.activation n x) (enough : x.params ≤ length old.values.operands)
    (h : HasEnteredAs x old new) (passes : Bool) (pass : passes ≡ true) where
  has_called : HasCalled (length (params c.callee.ty.now)) (begun_locals c.callee.function.now) old.values new.values
  has_called =
      subst (λ k. HasCalled k (begun_locals c.callee.function.now) old.values new.values) c.params_are
      (subst (λ ts. HasCalled x.params (begun_values ts) old.values new.values) c.locals_are h.values)

  enters : (w : World) → IsOf program frames w.machine → Lets passes w →
      owing old (call exec (frame_at old) old.code (state_at old w) n) ≡ means new w
  enters w of lets =
      let count = length (params c.callee.ty.now) in
      let a : Activation = record {
        instance = c.instance;
        «module» = c.callee.«module»;
        function = c.callee.function;
        results = c.count;
        depth = c.depth;
      } in
      let next : Activation → List Instr → List Layer → World → Outcome = λ a is ls.
      means (record { activation = a; code = is; layers = ls; values = new.values }) in
      let around = layer.Call h.caller ∷ old.layers in
      call_guest old w n c.callee.ty.now count
      (typed program frames w.machine of n c.instance c.number c.callee c.found c.there) refl
      (subst (λ k. k ≤ length old.values.operands) c.params_are enough)
      (shallow program frames w.machine of old.activation.depth c.shallow) a h.caller c.body c.callee.ty.now new.values
      (guest_is program frames w.machine of n c.instance c.number c.callee c.count c.depth c.found c.there)
      c.deeper c.begins c.results_are h.same h.behind has_called
      ∙ lets pass (next a c.body.instrs around)
      ∙ ap (λ a. next a c.body.instrs around w) (sym c.is ∙ sym h.activation)
      ∙ ap (λ is. next new.activation is around w) (sym c.code_is ∙ sym h.code)
      ∙ ap (λ ls. next new.activation new.code ls w) (sym h.layers)

-- ---- by an index

numbered : (k : ℕ) (go : ℕ → Outcome) (u : Outcome) (o : Option InstanceParts) →
    on.found u o (λ i. on.found u (slice_get i.functions k) go)
    ≡ on.found u (option_and_then (λ (n : Names). slice_get n.functions k) (option_map names_of o)) go
numbered k go u None = refl
numbered k go u (Some i) = refl

index_is : (program : ProgramParts) (frames n index : ℕ) (old : Configuration) →
    Some n ≡ function_number program old.activation.instance index → (w : World) → IsOf program frames w.machine →
    executing old (i.Call index) w ≡ owing old (call exec (frame_at old) old.code (state_at old w) n)
index_is program frames n index old named w h =
    let go = call exec (frame_at old) old.code (state_at old w) in
    let u = stuck (state_at old w) in
    ap (λ o. owing old o) (numbered index go u (slice_get w.machine.instances old.activation.instance)
    ∙ ap (λ o. on.found u (option_and_then (λ (n : Names). slice_get n.functions index) o) go)
    (h.instances old.activation.instance)
    ∙ ap (λ o. on.found u o go) (sym named))

-- ---- by the element of a table

module _ (program : ProgramParts) (frames : ℕ) (held : HeldParts) (a : Activation) (ty k place n : ℕ)
    (x : IsElement program held a ty k place n) (rest : List Instr) (locals kept : List RawVal) (w : World)
    (h : IsOf program frames w.machine) (tabled : w.machine.tables ≡ held.tables) where
  abbrev fr : Frame
  fr = frame_of a

  abbrev s : State
  s = state w locals kept

  -- by the type, the table, the element and the match
  signed : Signature → ℕ → Outcome
  signed wanted g = signed_by (function_type w.machine g) wanted s (call exec fr rest s g)

  with_element : Signature → Option RawRef → Outcome
  with_element wanted o = element o s (λ z. callee z s (signed wanted))

  with_table : Outcome → Signature → Option Table → Outcome
  with_table u wanted o = on.found u o (λ y. with_element wanted (slice_get y.elements place))

  with_type : Outcome → Option Signature → Outcome
  with_type u o =
      on.found u o (λ wanted. on.on_table u w.machine a.instance k (λ m y. with_element wanted (slice_get y.elements place)))

  typed_call : (u : Outcome) → with_type u (slice_get a.«module».now.types ty)
      ≡ with_table u x.wanted (table_in program held a.instance k)
  unfolding with_type with_table
  typed_call u =
      ap (λ o. with_type u o) (sym x.wanted_is)
      ∙ found_table program held w.machine a.instance k u (λ y. with_element x.wanted (slice_get y.elements place))
      h.instances tabled

  matched : signed x.wanted n ≡ call exec fr rest s n
  unfolding signed
  matched =
      ap (λ o. signed_by o x.wanted s (call exec fr rest s n)) (typed_is program frames w.machine h n ∙ sym x.own_is)
      ∙ ap (λ b. cond b (call exec fr rest s n) (Over (Trapped trap.BadSignature) w)) x.same

  chosen_call : (u : Outcome) → with_table u x.wanted (table_in program held a.instance k) ≡ call exec fr rest s n
  unfolding with_table with_element
  chosen_call u =
      ap (λ o. with_table u x.wanted o) (sym x.table_is) ∙ ap (λ o. with_element x.wanted o) (sym x.there) ∙ matched

  element_is : (operands : List RawVal) → TakesI32 operands place kept →
      one exec fr (i.CallIndirect ty k) rest (state w locals operands) ≡ call exec fr rest s n
  unfolding with_type with_element signed
  element_is operands t =
      let u = stuck (state w locals operands) in
      i32_takes u operands place kept (λ at left.
      on.found u (slice_get a.«module».now.types ty) (λ wanted.
      on.on_table u w.machine a.instance k (λ m y.
      element (slice_get y.elements at) (state w locals left) (λ z.
      callee z (state w locals left) (λ g.
      signed_by (function_type w.machine g) wanted (state w locals left)
      (call exec fr rest (state w locals left) g)))))) t
      ∙ typed_call u ∙ chosen_call u

-- ---- with its turn

long : (row : RowParts) (height : ℕ) → height ≤ length row.last → height ≤ length (topmost height row.last)
long row height within =
    omega (arith, length-reverse (take height row.last), length-take-le height row.last within)

module _ (program : ProgramParts) (frames n : ℕ) (a : Activation) (ls : List Layer) (row own : RowParts)
    (rest : List Instr) (height : ℕ) (x : Called) (c : IsCalledAs program frames a n x) (passes : Bool)
    (pass : passes ≡ true) (within : height ≤ length row.last) (new : Hop → Configuration) where
  abbrev before : ℕ → List Instr → Configuration
  before top code = placed a ls row own.before code top own.last

  pub call_leaps : (tables : List Table) (index : ℕ) → Some n ≡ function_number program a.instance index →
      x.params ≤ height → (o : Option Hop) → IfSome o (λ h. HasEnteredAs x (before height rest) (new h)) →
      IfSome o (λ h. LeapsTo program tables frames passes (before height (i.Call index ∷ rest)) (new h))
  call_leaps tables index named enough None e = tt
  call_leaps tables index named enough (Some h) e = record {
    instr = i.Call index;
    rest = rest;
    code_is = refl;
    quiet = tt;
    leads = λ w of tabled lets.
        index_is program frames n index (before height rest) named w of
        ∙ enters program frames n (before height rest) (new h) x c (omega (arith, enough, long row height within)) e
        passes pass w of lets;
  }

  pub element_leaps : (held : HeldParts) (ty k place : ℕ) → IsElement program held a ty k place n →
      TakesI32 (topmost height row.last) place (topmost (height - 1) row.last) → x.params ≤ height - 1 →
      (o : Option Hop) → IfSome o (λ h. HasEnteredAs x (before (height - 1) rest) (new h)) →
      IfSome o (λ h. LeapsTo program held.tables frames passes (before height (i.CallIndirect ty k ∷ rest)) (new h))
  element_leaps held ty k place named t enough None e = tt
  element_leaps held ty k place named t enough (Some h) e =
      let old = before (height - 1) rest in
      let there = long row (height - 1) (omega (arith, within)) in
      record {
        instr = i.CallIndirect ty k;
        rest = rest;
        code_is = refl;
        quiet = tt;
        leads = λ w of tabled lets.
            ap (λ o. owing old o) (element_is program frames held a ty k place n named rest own.last
            (topmost (height - 1) row.last) w of tabled (topmost height row.last) t)
            ∙ enters program frames n old (new h) x c (omega (arith, enough, there)) e passes pass w of lets;
      }
