-- A change of a memory or of a table that takes place where a test holds, as the effect of an instruction.
use Rattle.std.proofs.Common.{◌≡◌, ℕ, ◌-◌, Bool, true, false, List, ◌∷◌, set, refl, ap, sym, ◌∙◌, subst}
use Rattle.std.proofs.lemmas.Bool.{OnTrue_at, OnFalse_at}
use Rattle.std.specs.Prelude.{slice_get, Some}
use Rattle.wasm_values.specs.declared.refusals.Trap.{Trap}
use Rattle.wasm_objects.specs.declared.raw.RawVal.{RawVal}
use Rattle.spec_machine.specs.Machine.{Machine}
use Rattle.spec_execution.specs.Straight.{Goes, bounded}
use Rattle.store_state.specs.Changes.{Changes}
use Rattle.store_state.specs.Machine.{run_machine}
use Rattle.store_state.specs.Parts.{ProgramParts, HeldParts}
use Rattle.code_stack.specs.Values.{ValuesParts, values_parts}
use Rattle.code_straight.specs.Acting.{effect_of, Keeps, done_or}
use Rattle.code_straight.specs.declared.acted.Acted.{Acted}

-- an operand was pushed last
pub goes-pushed : (m : Machine) (old new : ValuesParts) (locals : List RawVal) (u v : RawVal) →
    new ≡ values_parts (v ∷ old.operands) old.locals old.below (old.room - 1) → old.locals ≡ locals → u ≡ v →
    Goes m locals (u ∷ old.operands) ≡ Goes m new.locals new.operands
goes-pushed m old new locals u v e same is =
    ap (λ x. Goes m locals (x ∷ old.operands)) is ∙ ap (λ l. Goes m l (v ∷ old.operands)) (sym same)
    ∙ ap (λ (s : ValuesParts). Goes m s.locals s.operands) (sym e)

-- by the answer, the test and what is then held
bounded_by : (t : Trap) (base : Machine) (p : ProgramParts) (after h' : HeldParts) (locals rest : List RawVal)
    (done holds : Bool) → done ≡ holds → (done ≡ true → h' ≡ after) →
    bounded t holds (Goes (run_machine base p after) locals rest)
    ≡ effect_of (done_or t done) (run_machine base p h') locals rest
bounded_by t base p after h' locals rest true true e was = ap (λ h. Goes (run_machine base p h) locals rest)
    (sym (was refl))
bounded_by t base p after h' locals rest false false e was = refl
bounded_by t base p after h' locals rest true false e was = absurd cc
bounded_by t base p after h' locals rest false true e was = absurd cc

kept_by : (t : Trap) (h h' : HeldParts) (done : Bool) → (done ≡ false → h' ≡ h) → Keeps (done_or t done) h h'
kept_by t h h' true same = tt
kept_by t h h' false same = same refl

-- of memories as of tables: whatever list it is that is held
module _ {A : Type 0} {n : ℕ} {done : Bool} {test : A → Bool} {after : A → A} {old new : List A}
    {h' : HeldParts} {r : Acted} (t : Trap) (r_is : r ≡ done_or t done) (holding : List A → HeldParts)
    (changes : Changes n test after old done new) (rest_is : h' ≡ holding new) where
  pub changed : {locals left : List RawVal} {x : A} (base : Machine) (p : ProgramParts) (rest : List RawVal) →
      left ≡ locals → slice_get old n ≡ Some x →
      bounded t (test x) (Goes (run_machine base p (holding (set old n (after x)))) locals rest)
      ≡ effect_of r (run_machine base p h') left rest
  changed {locals} {left} {x} base p rest same found =
      bounded_by t base p (holding (set old n (after x))) h' locals rest done (test x) (changes.tested x found)
      (λ e. rest_is ∙ ap holding (OnTrue_at e (changes.changed x found)))
      ∙ ap (λ a. effect_of a (run_machine base p h') locals rest) (sym r_is)
      ∙ ap (λ l. effect_of r (run_machine base p h') l rest) (sym same)

  pub kept : Keeps r (holding old) h'
  kept =
      subst (λ (a : Acted). Keeps a (holding old) h') (sym r_is) (kept_by t (holding old) h' done (λ e.
      rest_is ∙ ap holding (OnFalse_at e changes.refused)))
