-- Indirect calls: the table, its element, and the type of the function.
use Rattle.std.proofs.Common.{◌≡◌, ℕ, List, Option, Some, None, refl, sym, ap, ◌∙◌, subst, Bool, true, false}
use Rattle.std.specs.Prelude.{cond, slice_get, option_map}
use Rattle.wasm_types.specs.Matching.{matches}
use Rattle.wasm_types.specs.Signatures.{Signature}
use Rattle.wasm_syntax.specs.declared.instr.Instr.TheVariants as i
use Rattle.wasm_values.specs.declared.refusals.Trap.TheVariants as trap
use Rattle.wasm_objects.specs.Tables.{Table}
use Rattle.wasm_objects.specs.declared.raw.RawRef.{RawRef}
use Rattle.wasm_objects.specs.declared.raw.RawRef.TheVariants as r
use Rattle.spec_machine.specs.Machine.{Machine}
use Rattle.spec_machine.specs.Values.{function_type}
use Rattle.spec_execution.specs.Askings.{Answer, Asking}
use Rattle.spec_execution.specs.Bodies.{stuck, element, callee, signed_by, call, exec}
use Rattle.spec_execution.specs.Operands as on
use Rattle.spec_execution.specs.Outcomes.{World, State, state, Outcome, Over, Trapped, Stuck}
use Rattle.store_state.specs.Lists.{element_at}
use Rattle.store_state.specs.Machine.{run_machine, type_named}
use Rattle.store_state.specs.Parts.{ProgramParts, HeldParts}
use Rattle.code_stack.specs.Reading.{LacksI32, TakesI32}
use Rattle.code_stack.specs.Values.{ValuesParts}
use Rattle.code_leaps.specs.Calling.{IsOf}
use Rattle.code_run.specs.Calling.{Calls}
use Rattle.code_leaps.specs.Choosing.{table_in}
use Rattle.code_run.specs.Choosing.{chosen_by, CallsSigned}
use Rattle.code_stack.specs.Layers.{frame_at, state_at, owing}
use Rattle.code_leaps.specs.Leading.{at}
use Rattle.code_leaps.specs.Running.{ruled, executing, Steps}
use Rattle.code_stack.specs.declared.rules.Rules.{Rules}
use Rattle.code_stack.specs.Steps.{end_of}
use Rattle.code_run.specs.Steps.{seen}
use Rattle.code_run.specs.declared.indirect.Chosen.{Chosen}
use Rattle.code_run.specs.declared.indirect.Chosen.TheVariants as chosen
use Rattle.code_stack.specs.declared.steps.Fault.{Fault}
use Rattle.code_stack.specs.declared.steps.Fault.TheVariants as fault
use Rattle.code_stack.specs.declared.steps.Step.{Step}
use Rattle.code_stack.specs.declared.steps.Step.TheVariants.{Fails}
use Rattle.code_run.specs.declared.thread.Thread.{Thread}
use Rattle.code_leaps.proofs.OperandLemmas.{i32_lacks, i32_takes}
use Rattle.code_run.proofs.Conditions.{taken, behind}
use Rattle.code_stack.proofs.LayerLemmas.{owing_over}
use Rattle.code_run.proofs.Threads.{comes_from}
use Rattle.code_leaps.proofs.InstructionTurnLemmas.{names_of-instances, is_of}
use Rattle.code_leaps.proofs.StoreLemmas.{typed_is, found_table}

-- ---- the table, and its element

pub no_table : (o : Option Table) (x : ℕ) → None ≡ option_map (element_at x) o → None ≡ o
no_table None x e = refl
no_table (Some y) x e = absurd cc

pub element_of : (o : Option Table) (x : ℕ) (z : Option RawRef) → Some z ≡ option_map (element_at x) o →
    (y : Table) × (Some y ≡ o) × (z ≡ slice_get y.elements x)
element_of None x z e = absurd cc
element_of (Some y) x z e = (y, refl, cc)

-- ---- the type of a function of the store

module _ (program : ProgramParts) (frames : ℕ) (wanted : Signature) (n : ℕ) (old new : Thread) where
  by_type : World → Option Signature → Outcome
  by_type w o =
      owing (seen old) (signed_by o wanted (state_at (seen old) w)
      (call exec (frame_at (seen old)) old.code.now (state_at (seen old) w) n))

  by_match : World → Bool → Outcome
  by_match w b =
      owing (seen old) (cond b (call exec (frame_at (seen old)) old.code.now (state_at (seen old) w) n)
      (Over (Trapped trap.BadSignature) w))

  pub signed_none : None ≡ type_named program n → CallsSigned program frames wanted n old (Fails fault.Stuck) new
  unfolding by_type
  signed_none e = λ w h.
      ap (by_type w) (typed_is program frames w.machine h n ∙ sym e) ∙ owing_over (seen old) (Over Stuck w) Stuck w refl

  module _ (own : Signature) (e : Some own ≡ type_named program n) where
    signed_is : (w : World) → IsOf program frames w.machine → by_type w (function_type w.machine n)
        ≡ by_match w (matches own wanted)
    unfolding by_type by_match
    signed_is w h = ap (by_type w) (typed_is program frames w.machine h n ∙ sym e)

    pub signed_other : matches own wanted ≡ false →
        CallsSigned program frames wanted n old (Fails (fault.Trapped trap.BadSignature)) new
    unfolding by_type by_match
    signed_other other = λ w h.
        signed_is w h ∙ ap (by_match w) other
        ∙ owing_over (seen old) (Over (Trapped trap.BadSignature) w) (Trapped trap.BadSignature) w refl

    pub signed_goes : (step : Step) → matches own wanted ≡ true → Calls program frames n old step new →
        CallsSigned program frames wanted n old step new
    unfolding by_type by_match
    signed_goes step same next = λ w h.
        comes_from _ _ step (seen new) w (signed_is w h ∙ ap (by_match w) same) (next w h)

-- ---- the call

module _ (program : ProgramParts) (rules : Rules) (held : HeldParts) (ty k : ℕ) (old new : Thread) where
  pub indirect_lacks : LacksI32 old.values.operands →
      Steps (ruled program rules) (executing (seen old) (i.CallIndirect ty k)) held (Fails fault.Stuck)
      (seen new) held
  indirect_lacks h = record {
    by = λ base b turns before answers.
        let w = at (ruled program rules) base held turns before answers in
        owing_over (seen old) _ Stuck w (i32_lacks (stuck (state_at (seen old) w)) old.values.operands _ h);
  }

  module _ (val : ValuesParts) (el : val.locals ≡ old.values.locals) (eb : val.below ≡ old.values.below) (x : ℕ)
      (h : TakesI32 old.values.operands x val.operands) where
    -- by the element, the table and the type
    with_element : Signature → State → Option RawRef → Outcome
    with_element wanted s o =
        element o s (λ z. callee z s (λ g. signed_by (function_type s.world.machine g) wanted s
        (call exec (frame_at (seen old)) old.code.now s g)))

    with_table : Signature → State → Option Table → Outcome
    with_table wanted s o = on.found (stuck s) o (λ y. with_element wanted s (slice_get y.elements x))

    with_type : State → Option Signature → Outcome
    with_type s o =
        on.found (stuck s) o (λ wanted. with_table wanted s (table_in program held old.activation.instance k))

    led_by : Signature → State → Chosen → Outcome
    led_by wanted s (chosen.Function g) =
        signed_by (function_type s.world.machine g) wanted s (call exec (frame_at (seen old)) old.code.now s g)
    led_by wanted s (chosen.Fails f) = Over (end_of f) s.world

    led : (wanted : Signature) (s : State) (o : Option RawRef) → with_element wanted s o ≡ led_by wanted s (chosen_by o)
    unfolding with_element led_by
    led wanted s None = refl
    led wanted s (Some r.Null) = refl
    led wanted s (Some (r.Func n)) = refl
    led wanted s (Some (r.Extern n)) = refl
    led wanted s (Some (r.I31 n)) = refl

    -- the world of a step
    abbrev on_world : Machine → ℕ → List Asking → List Answer → World
    on_world base turns before answers = at (ruled program rules) base held turns before answers

    tabled : (s : State) (base : Machine) (o : Option Signature) →
        on.found (stuck s) o (λ wanted. on.on_table (stuck s) (run_machine base program held)
        old.activation.instance k (λ n y. with_element wanted s (slice_get y.elements x))) ≡ with_type s o
    unfolding with_table with_type
    tabled s base None = refl
    tabled s base (Some wanted) =
        found_table program held (run_machine base program held) old.activation.instance k (stuck s)
        (λ y. with_element wanted s (slice_get y.elements x)) (names_of-instances program.instances held.segments) refl

    indirect_is : (base : Machine) (turns : ℕ) (before : List Asking) (answers : List Answer) →
        executing (seen old) (i.CallIndirect ty k) (on_world base turns before answers)
        ≡ owing (seen (taken old val el eb (on_world base turns before answers)))
        (with_type (state_at (seen (taken old val el eb (on_world base turns before answers)))
        (on_world base turns before answers)) (slice_get old.activation.«module».now.types ty))
    unfolding with_element with_type with_table
    indirect_is base turns before answers =
        let w = on_world base turns before answers in
        let types = slice_get old.activation.«module».now.types ty in
        ap (λ o. owing (seen old) o) (i32_takes (stuck (state_at (seen old) w)) old.values.operands x val.operands
        (λ at rest. on.found (stuck (state_at (seen old) w)) types (λ wanted.
        on.on_table (stuck (state_at (seen old) w)) w.machine old.activation.instance k (λ n y.
        element (slice_get y.elements at) (state w old.values.locals rest) (λ z.
        callee z (state w old.values.locals rest) (λ g.
        signed_by (function_type w.machine g) wanted (state w old.values.locals rest)
        (call exec (frame_at (seen old)) old.code.now (state w old.values.locals rest) g)))))) h)
        ∙ ap (λ o. owing (seen old) o) (tabled (state w old.values.locals val.operands) base types)
        ∙ behind old val el eb w (λ s. with_type s types)

    pub indirect_untyped : None ≡ slice_get old.activation.«module».now.types ty →
        Steps (ruled program rules) (executing (seen old) (i.CallIndirect ty k)) held (Fails fault.Stuck)
        (seen new) held
    unfolding with_type
    indirect_untyped e = record {
      by = λ base b turns before answers.
          let w = on_world base turns before answers in
          let c = seen (taken old val el eb w) in
          indirect_is base turns before answers ∙ ap (λ o. owing c (with_type (state_at c w) o)) (sym e)
          ∙ owing_over c (Over Stuck w) Stuck w refl;
    }

    module _ (wanted : Signature) (et : Some wanted ≡ slice_get old.activation.«module».now.types ty) where
      typed_call : (base : Machine) (turns : ℕ) (before : List Asking) (answers : List Answer) →
          executing (seen old) (i.CallIndirect ty k) (on_world base turns before answers)
          ≡ owing (seen (taken old val el eb (on_world base turns before answers)))
          (with_table wanted (state_at (seen (taken old val el eb (on_world base turns before answers)))
          (on_world base turns before answers)) (table_in program held old.activation.instance k))
      unfolding with_type
      typed_call base turns before answers =
          let w = on_world base turns before answers in
          let c = seen (taken old val el eb w) in
          indirect_is base turns before answers ∙ ap (λ o. owing c (with_type (state_at c w) o)) (sym et)

      pub indirect_tableless : None ≡ table_in program held old.activation.instance k →
          Steps (ruled program rules) (executing (seen old) (i.CallIndirect ty k)) held (Fails fault.Stuck)
          (seen new) held
      unfolding with_table
      indirect_tableless e = record {
        by = λ base b turns before answers.
            let w = on_world base turns before answers in
            let c = seen (taken old val el eb w) in
            typed_call base turns before answers ∙ ap (λ o. owing c (with_table wanted (state_at c w) o)) (sym e)
            ∙ owing_over c (Over Stuck w) Stuck w refl;
      }

      module _ (y : Table) (ey : Some y ≡ table_in program held old.activation.instance k) where
        chosen_call : (base : Machine) (turns : ℕ) (before : List Asking) (answers : List Answer) (chose : Chosen) →
            chose ≡ chosen_by (slice_get y.elements x) →
            executing (seen old) (i.CallIndirect ty k) (on_world base turns before answers)
            ≡ owing (seen (taken old val el eb (on_world base turns before answers)))
            (led_by wanted (state_at (seen (taken old val el eb (on_world base turns before answers)))
            (on_world base turns before answers)) chose)
        unfolding with_table
        chosen_call base turns before answers chose ec =
            let w = on_world base turns before answers in
            let c = seen (taken old val el eb w) in
            typed_call base turns before answers ∙ ap (λ o. owing c (with_table wanted (state_at c w) o)) (sym ey)
            ∙ ap (λ o. owing c o) (led wanted (state_at c w) (slice_get y.elements x))
            ∙ ap (λ o. owing c (led_by wanted (state_at c w) o)) (sym ec)

        pub indirect_fails : (f : Fault) → chosen.Fails f ≡ chosen_by (slice_get y.elements x) →
            Steps (ruled program rules) (executing (seen old) (i.CallIndirect ty k)) held (Fails f)
            (seen new) held
        unfolding led_by
        indirect_fails f ec = record {
          by = λ base b turns before answers.
              let w = on_world base turns before answers in
              let c = seen (taken old val el eb w) in
              chosen_call base turns before answers (chosen.Fails f) ec
              ∙ owing_over c (Over (end_of f) w) (end_of f) w refl;
        }

        pub indirect_calls : (frames : ℕ) → rules.frames ≡ frames → (g : ℕ) (step : Step) → chosen.Function g ≡ chosen_by (slice_get y.elements x) →
            CallsSigned program frames wanted g (record old { values = val }) step new →
            Steps (ruled program rules) (executing (seen old) (i.CallIndirect ty k)) held step
            (seen new) held
        unfolding led_by
        indirect_calls frames ef g step ec next = record {
          by = λ base b turns before answers.
              let w = on_world base turns before answers in
              comes_from _ _ step (seen new) w (chosen_call base turns before answers (chosen.Function g) ec)
              (next w (subst (λ (k : ℕ). IsOf program k w.machine) ef (is_of program rules base held b)));
        }
