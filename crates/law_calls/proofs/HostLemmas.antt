-- Hosts that hand out nothing unshown: one without bodies, and a closure that gives no function.
use Rattle.std.proofs.Common.{◌≡◌, ℕ, Bool, true, false, ◌||◌, List, [], ◌∷◌, Option, Some, None, inl, inr, refl, sym, ap, ◌∙◌}
use Rattle.std.specs.List.{list_all, list_any}
use Rattle.std.specs.Prelude.{if◌then◌else◌, Result, Ok, Err, IfSome, IsErr}
use Rattle.std.proofs.lemmas.Bool.{false≢true, and_parts}
use Rattle.wasm_types.specs.declared.faults.OutOfMemory.{OutOfMemory}
use Rattle.wasm_values.specs.declared.values.Val.{Val}
use Rattle.wasm_values.specs.declared.values.Val.TheVariants as v
use Rattle.spec_execution.specs.Askings.{View}
use Rattle.spec_execution.specs.declared.answer.Answer.{Answer as Say}
use Rattle.spec_execution.specs.declared.answer.Answer.TheVariants as say
use Rattle.law_plugins.specs.Showing.{Sight, sight_of, is_strange, as_shown}
use Rattle.wasm_host.specs.Hosts.{Idles}
use Rattle.wasm_typed.specs.Wraps.{Calls, Called, Says, WrapSteps, taken}
use Rattle.law_calls.specs.Plain.{is_no_function, GivesNoFunction}

module _ (seen : View) where
  -- it says what is said of something, but for what was not shown
  abbrev Shows : Result Say OutOfMemory → Type 0
  Shows what = (said : Result Say OutOfMemory) × (what ≡ as_shown seen said)

  -- a host without bodies
  pub idle_shows : {H T : Type 0} (h k : H) (s t : T) (state after : ℕ) (what : Result Say OutOfMemory) →
      Idles h s state after what k t → Shows what
  idle_shows h k s t state after what i = (Ok (say.Return []), i.returns)

  -- ---- a closure that gives no function

  unstrange : (s : Sight) (val : Val) → is_no_function val ≡ true → is_strange s val ≡ false
  unstrange s (v.FuncRef (Some f)) e = absurd (false≢true e)
  unstrange s val e = refl

  none_strange : (s : Sight) (vals : List Val) → list_all is_no_function vals ≡ true →
      list_any (is_strange s) vals ≡ false
  none_strange s [] e = refl
  none_strange s (val ∷ vals) e =
      let p = and_parts (is_no_function val) (list_all is_no_function vals) e in
      λ i. unstrange s val p.0 i || none_strange s vals p.1 i

  abbrev said : Bool → Say → Result Say OutOfMemory
  said strange what = Ok (if strange then say.Fail else what)

  returned : (vals : List Val) → list_all is_no_function vals ≡ true →
      said false (say.Return vals) ≡ as_shown seen (Ok (say.Return vals))
  returned vals e = sym (ap (λ (b : Bool). said b (say.Return vals)) (none_strange (sight_of seen) vals e))

  module _ {T P R : Type 0} (given : R → Option (List Val)) (calls : Calls T P R) (none : GivesNoFunction given) where
    by_vals : (o : Option (List Val)) → IfSome o (λ vals. list_all is_no_function vals ≡ true) → (old new : ℕ)
        (what : Result Say OutOfMemory) → Says given calls old o what new → Shows what
    by_vals (Some vals) k old new what h = (Ok (say.Return vals), h.0 ∙ returned vals k)
    by_vals None k old new what h = (Ok say.Fail, h.0)

    unsaid : (what : Result Say OutOfMemory) → IsErr what → Shows what
    unsaid (Ok done) h = absurd (false≢true h)
    unsaid (Err short) h = (Err short, refl)

    by_taken : (o : Option P) (old new : ℕ) (s t : T) (what : Result Say OutOfMemory) →
        Called given calls old s o what new t → Shows what
    by_taken None old new s t what h = (Ok say.Fail, h.0)
    by_taken (Some p) old new s t what h =
        elim h.2 [ inl k ↦ by_vals (given h.0) (none h.0) old new what k | inr k ↦ unsaid what k.0 ]

    pub wrap_shows : (keeps : T → T → Type 0) (of_vals : List Val → Option P) (old new : ℕ) (s t : T)
        (body state after : ℕ) (args : List Val) (what : Result Say OutOfMemory) →
        WrapSteps given calls keeps of_vals old s body state args after what new t → Shows what
    wrap_shows keeps of_vals old new s t body state after args what w =
        by_taken (taken of_vals body args) old new s t what w.goes
