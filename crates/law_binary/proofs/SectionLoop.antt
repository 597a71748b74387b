-- The loop over sections: what it does at each of them.
use Rattle.std.proofs.Common.{◌≡◌, ℕ, suc, ◌+◌, ◌<◌, List, ◌∷◌, length, Bool, false, Option, Some, None, Result, Err, arith, refl, sym, ◌∙◌, ap, nat_eq, nat_lt}
use Rattle.std.proofs.lemmas.Bool.{ne_eqb}
use Rattle.std.specs.Prelude.{⊤, option_map}
use Rattle.wasm_leb.specs.Places.{Place, place}
use Rattle.wasm_types.specs.declared.plain.EngineId.{EngineId}
use Rattle.binary_types.specs.Reading.{Read, then, done, unless, some_or, ◌>>=◌, fixed}
use Rattle.binary_types.specs.Reading as reading
use Rattle.binary_types.specs.declared.faults.BinaryFault.{BinaryFault}
use Rattle.binary_types.specs.declared.faults.BinaryFault.TheVariants.{Malformed}
use Rattle.wasm_binary.specs.Sections.{content, custom, kind_of, known_section, rank_of, section_if, sections_to, with_last}
use Rattle.law_binary.specs.Modules.{Held, Section}
use Rattle.law_binary.proofs.Parts.{left_out}
use Rattle.law_binary.proofs.TypeAgreement.{then_then}
use Rattle.law_binary.proofs.SectionSteps.{IsSection, held_read, known_is}
use Rattle.law_binary.proofs.SectionOrder.{is_known, is_later}

module _ (engine : EngineId) where
  -- where bytes are left, one section is read
  turn : (n : ℕ) (s : Held) (at b : ℕ) (bs : List ℕ) → sections_to (suc n) engine s (place at (b ∷ bs)) ≡ then (section_if (nat_eq b 0) engine b s (place (at + 1) bs)) (sections_to n engine)
  turn n s at b bs = left_out (nat_eq (length (b ∷ bs)) 0) _ _ (ne_eqb (length (b ∷ bs)) 0 (λ e. absurd (omega arith)))

  -- a custom section
  pub custom_turn : (n : ℕ) (s : Held) (at : ℕ) (bs : List ℕ) → sections_to (suc n) engine s (place at (0 ∷ bs)) ≡ then (reading.sized custom (place (at + 1) bs)) (λ _. sections_to n engine s)
  custom_turn n s at bs = turn n s at 0 bs ∙ sym (then_then (reading.sized custom (place (at + 1) bs)) (λ _. done s) (sections_to n engine))

  -- a section that is known, behind those before it
  pub known_turn : (k : Section) (rank : ℕ) (i : IsSection engine k rank) (n l : ℕ) (g : Held) (at : ℕ) (bs : List ℕ) → l < rank → sections_to (suc n) engine (with_last l g) (place at (k.id ∷ bs)) ≡ then (held_read engine k rank i g (place (at + 1) bs)) (λ h. sections_to n engine (with_last rank h))
  known_turn k rank i n l g at bs h =
      turn n (with_last l g) at k.id bs
      ∙ ap (λ (b : Bool). then (section_if b engine k.id (with_last l g) (place (at + 1) bs)) (sections_to n engine)) i.not_custom
      ∙ ap (λ (o : Result (Held × Place) BinaryFault). then o (sections_to n engine)) (known_is engine k rank i l g (place (at + 1) bs) h)
      ∙ sym (then_then (held_read engine k rank i g (place (at + 1) bs)) (λ t. done (with_last rank t)) (sections_to n engine))

  -- any other one
  refused : {K : Type 0} (rank : K → ℕ) (known : K → Read Held) (l : ℕ) (p : Place) (f : K → ⊤ → Read Held) → ((k : K) → known k p ≡ then (unless Malformed (nat_lt l (rank k)) p) (f k)) → (o : Option K) → is_later l (option_map rank o) ≡ false → then (some_or Malformed o p) known ≡ Err Malformed
  refused rank known l p f is None e = refl
  refused rank known l p f is (Some k) e = is k ∙ ap (λ (b : Bool). then (unless Malformed b p) (f k)) e

  pub other_turn : (n l : ℕ) (g : Held) (at b : ℕ) (bs : List ℕ) → nat_eq b 0 ≡ false → is_known l b ≡ false → sections_to (suc n) engine (with_last l g) (place at (b ∷ bs)) ≡ Err Malformed
  other_turn n l g at b bs h e =
      turn n (with_last l g) at b bs
      ∙ ap (λ (c : Bool). then (section_if c engine b (with_last l g) (place (at + 1) bs)) (sections_to n engine)) h
      ∙ ap (λ (o : Result (Held × Place) BinaryFault). then o (sections_to n engine))
      (refused rank_of (known_section engine (with_last l g)) l (place (at + 1) bs)
      (λ k _. reading.sized (content engine k (with_last l g)) >>= (λ t. done (with_last (rank_of k) t))) (λ k. refl) (kind_of b) e)
