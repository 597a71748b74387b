-- A function is left: at its end, by a branch to its body's label, or by a return.
use Rattle.std.proofs.Common.{◌≡◌, ℕ, zero, suc, ◌≤◌, List, [], ◌∷◌, ◌++◌, length, take, inl, inr, refl, sym, ap, ◌∙◌, arith, true, false}
use Rattle.std.specs.Prelude.{nat_eq, cond, ◌⊎◌}
use Rattle.std.proofs.Math.Seq.{take-length}
use Rattle.std.proofs.lemmas.Bool.Decides.{nat_tests}
use Rattle.std.proofs.lemmas.List.{take-append-le, length-take-le}
use Rattle.wasm_objects.specs.declared.raw.RawVal.{RawVal}
use Rattle.spec_execution.specs.Bodies.{back, exec}
use Rattle.spec_execution.specs.Entering.{Run, leave}
use Rattle.spec_execution.specs.Outcomes.{World, state, Outcome, Values, Branch, Return, Over, Stuck}
use Rattle.spec_execution.proofs.EquationLemmas.{run_nil}
use Rattle.code_stack.specs.Values.{Below, ValuesParts, HasLeft, CannotClose}
use Rattle.code_stack.specs.declared.layers.Activation.{Activation}
use Rattle.code_stack.specs.declared.layers.Caller.{Caller}
use Rattle.code_stack.specs.declared.layers.Layer.{Layer}
use Rattle.code_stack.specs.declared.layers.Layer.TheVariants.{Block, Call}
use Rattle.code_stack.specs.Layers.{frame_of, lost, outwards, past, IsOutermost, Configuration, frame_at, owing, state_at, means}
use Rattle.code_stack.proofs.LayerLemmas.{outwards_over, past_found, past_none, past_stuck}
use Rattle.code_leaps.proofs.Labels.{front, few}

unequal : (n m : ℕ) → (n ≡ m → ⊥) → nat_eq n m ≡ false
unequal n m other = grind (arith, nat_tests)

-- by the same outcome of the function, the same comes of it
alike : (a : Activation) (ls : List Layer) (below own : List (List RawVal)) (o o' : Outcome) → IsOutermost ls →
    lost o ≡ lost o' →
    leave a.results o ≡ leave a.results o' → outwards a ls below own o ≡ outwards a ls below own o'
alike a [] [] own o o' out el e = el
alike a [] (ops ∷ below) [] o o' out el e = el
alike a [] (ops ∷ below) (locals ∷ own) o o' out el e = e
alike a (Block p ∷ ls) below own o o' out el e = absurd out
alike a (Call c ∷ ls) [] own o o' out el e = el
alike a (Call c ∷ ls) (ops ∷ below) [] o o' out el e = el
alike a (Call c ∷ ls) (ops ∷ below) (locals ∷ own) o o' out el e =
    ap (λ o. outwards c.activation ls below own (back exec (Run (frame_of c.activation) c.rest.now) locals ops o)) e

past_alike : (a : Activation) (n : ℕ) (ls : List Layer) (below own : List (List RawVal)) (o o' : Outcome) →
    IsOutermost ls → lost o ≡ lost o' →
    leave a.results o ≡ leave a.results o' → past a n ls below own o ≡ past a n ls below own o'
past_alike a zero ls below own o o' out el e = alike a ls below own o o' out el e
past_alike a (suc n) ls [] own o o' out el e = el
past_alike a (suc n) ls (ops ∷ below) own o o' out el e = past_alike a n ls below own o o' out el e

module _ (a : Activation) (ls : List Layer) (old : ValuesParts) (skipped : ℕ) (w : World) where
  -- what is due at a return past so many blocks
  abbrev pub returning : Outcome
  returning = past a skipped ls old.below.operands old.below.locals (Return (state w old.locals old.operands))

  pub branch_returns : IsOutermost ls → past a skipped ls old.below.operands old.below.locals
      (Branch 0 (state w old.locals old.operands)) ≡ returning
  branch_returns out = past_alike a skipped ls old.below.operands old.below.locals
      (Branch 0 (state w old.locals old.operands)) (Return (state w old.locals old.operands)) out refl refl

  pub branch_beyond : (l : ℕ) → IsOutermost ls →
      past a skipped ls old.below.operands old.below.locals (Branch (suc l) (state w old.locals old.operands))
      ≡ Over Stuck w
  branch_beyond l out =
      past_alike a skipped ls old.below.operands old.below.locals (Branch (suc l) (state w old.locals old.operands))
      (Over Stuck w) out refl refl
      ∙ past_stuck a skipped ls old.below.operands old.below.locals (Over Stuck w) w refl
      (λ ops further. outwards_over a ls (ops ∷ further) old.below.locals Stuck w)

  -- with too few results, or where values are missing
  pub return_stuck : IsOutermost ls → CannotClose skipped a.results old ⊎ (old.below.locals ≡ []) →
      returning ≡ Over Stuck w
  return_stuck out (inl (inl lt)) =
      past_alike a skipped ls old.below.operands old.below.locals (Return (state w old.locals old.operands))
      (Over Stuck w) out refl (few (Over Stuck w) a.results old.operands (λ front rest. Values (state w [] front))
      lt)
      ∙ past_stuck a skipped ls old.below.operands old.below.locals (Over Stuck w) w refl
      (λ ops further. outwards_over a ls (ops ∷ further) old.below.locals Stuck w)
  return_stuck out (inl (inr e)) = past_none a skipped ls old.below.operands old.below.locals
      (Return (state w old.locals old.operands)) e
  return_stuck out (inr e) =
      past_stuck a skipped ls old.below.operands old.below.locals (Return (state w old.locals old.operands)) w refl
      (λ ops further.
      ap (λ own. outwards a ls (ops ∷ further) own (Return (state w old.locals old.operands))) e
      ∙ without ls out ops further)
    where
      without : (ls : List Layer) → IsOutermost ls → (ops : List RawVal) (further : List (List RawVal)) →
          outwards a ls (ops ∷ further) [] (Return (state w old.locals old.operands)) ≡ Over Stuck w
      without [] out ops further = refl
      without (Block p ∷ ls) out ops further = absurd out
      without (Call c ∷ ls) out ops further = refl

  module _ (v : ValuesParts) (h : HasLeft skipped a.results old v) where
    left : Outcome
    left = Values (state w [] (take a.results old.operands))

    return_front : leave a.results (Return (state w old.locals old.operands)) ≡ left
    unfolding left
    return_front = front (Over Stuck w) a.results old.operands (λ front rest. Values (state w [] front)) h.enough

    found : returning ≡ outwards a ls (h.outer ∷ h.further) (v.locals ∷ h.frames)
        (Return (state w old.locals old.operands))
    found =
        past_found a skipped ls old.below.operands old.below.locals h.outer h.further
        (Return (state w old.locals old.operands)) h.around
        ∙ ap (λ own. outwards a ls (h.outer ∷ h.further) own (Return (state w old.locals old.operands))) h.callers

    -- to the function that called
    pub returns : (c : Caller) (more : List Layer) → ls ≡ Call c ∷ more →
        returning ≡ means (record { activation = c.activation; code = c.rest.now; layers = more; values = v }) w
    unfolding left
    returns c more e =
        let due : List RawVal → Below → Outcome = λ ops b.
        outwards c.activation more b.operands b.locals
        (exec (Run (frame_of c.activation) c.rest.now) (state w v.locals ops)) in
        found
        ∙ ap (λ ls. outwards a ls (h.outer ∷ h.further) (v.locals ∷ h.frames)
        (Return (state w old.locals old.operands))) e
        ∙ ap (λ o. outwards c.activation more h.further h.frames
        (back exec (Run (frame_of c.activation) c.rest.now) v.locals h.outer o)) return_front
        ∙ ap (λ b. due (take a.results old.operands ++ h.outer) b) (sym h.below)
        ∙ ap (λ ops. due ops v.below) (sym h.operands)

    -- or to outside
    pub returns_last : ls ≡ [] → returning ≡ Values (state w [] (take a.results v.operands))
    unfolding left
    returns_last e =
        let n : length (take a.results old.operands) ≡ a.results = omega
        (arith, length-take-le a.results old.operands h.enough) in
        let le : a.results ≤ length (take a.results old.operands) = omega (arith, n) in
        let same : take a.results v.operands ≡ take a.results old.operands =
        ap (λ ops. take a.results ops) h.operands ∙ take-append-le a.results (take a.results old.operands)
        h.outer le
        ∙ ap (λ k. take k (take a.results old.operands)) (sym n) ∙ take-length (take a.results old.operands) in
        found
        ∙ ap (λ ls. outwards a ls (h.outer ∷ h.further) (v.locals ∷ h.frames)
        (Return (state w old.locals old.operands))) e
        ∙ return_front ∙ ap (λ ops. Values (state w [] ops)) (sym same)

module _ (c : Configuration) (w : World) where
  end_owes : c.code ≡ [] → means c w ≡ owing c (Values (state_at c w))
  end_owes e =
      ap (λ is. owing c (exec (Run (frame_at c) is) (state_at c w))) e
      ∙ ap (λ o. owing c o) (run_nil (frame_at c) (state_at c w))

  -- the end of a function, with its results and no more, is a return
  pub end_returns : c.code ≡ [] → IsOutermost c.layers → length c.values.operands ≡ c.activation.results →
      means c w ≡ returning c.activation c.layers c.values 0 w
  end_returns e out n =
      let eq : nat_eq (length c.values.operands) c.activation.results ≡ true = grind (arith, nat_tests) in
      let all : take c.activation.results c.values.operands ≡ c.values.operands = ap (λ k. take k c.values.operands)
      (sym n) ∙ take-length c.values.operands in
      let le : c.activation.results ≤ length c.values.operands = omega (arith, n) in
      end_owes e ∙ alike c.activation c.layers c.values.below.operands c.values.below.locals (Values (state_at c w))
      (Return (state_at c w)) out refl
      (ap (λ b. cond b (Values (state w [] c.values.operands)) (Over Stuck w)) eq
      ∙ ap (λ ops. Values (state w [] ops)) (sym all)
      ∙ sym (front (Over Stuck w) c.activation.results c.values.operands (λ front rest. Values (state w [] front))
      le))

  pub end_stuck : c.code ≡ [] → IsOutermost c.layers → (length c.values.operands ≡ c.activation.results → ⊥) →
      means c w ≡ Over Stuck w
  end_stuck e out other =
      let eq : nat_eq (length c.values.operands) c.activation.results ≡ false = unequal (length c.values.operands)
      c.activation.results other in
      end_owes e ∙ alike c.activation c.layers c.values.below.operands c.values.below.locals (Values (state_at c w))
      (Over Stuck w) out refl
      (ap (λ b. cond b (Values (state w [] c.values.operands)) (Over Stuck w)) eq)
      ∙ outwards_over c.activation c.layers c.values.below.operands c.values.below.locals Stuck w
