-- Sections that are read are those of the grammar, and a fault that is read is one of it.
use Rattle.std.proofs.Common.{◌≡◌, ◌⊎◌, ℕ, zero, suc, ◌+◌, List, [], ◌∷◌, ◌++◌, length, Bool, true, false, Ok, Err, inl, inr, refl, sym, ◌∙◌, ap, subst, nat_eq}
use Rattle.std.proofs.lemmas.Bool.{eqb-true, eq-eqb}
use Rattle.wasm_leb.specs.Places.{Place, place}
use Rattle.wasm_types.specs.declared.plain.EngineId.{EngineId}
use Rattle.binary_types.specs.Reading.{Read, then, done, unless, ◌>>=◌, fixed}
use Rattle.binary_types.specs.Reading as reading
use Rattle.binary_types.specs.declared.faults.BinaryFault.{BinaryFault}
use Rattle.binary_types.specs.declared.faults.BinaryFault.TheVariants.{Malformed}
use Rattle.wasm_binary.specs.Sections.{custom, sections_to, with_last}
use Rattle.law_binary.specs.Modules.{Held, Section, sections}
use Rattle.law_binary.proofs.Combining.{then_ok, then_err, both, no_fault, same_fault, same_value, same_place}
use Rattle.law_binary.proofs.SectionSteps.{IsSection, agree_custom_section, agree_held, agree_present, agree_sized_custom, held_read, no_sized_fault, present_read}
use Rattle.law_binary.proofs.SectionOrder.{Suffix, has_id}
use Rattle.law_binary.proofs.SectionLoop.{custom_turn, known_turn, other_turn}
use Rattle.law_binary.proofs.SectionsGrammar.{Located, located, nothing_more, custom_front, front_fails, fails_at, there, there_fails, here_fails}

-- ---- what is read is in the grammar

pub record FoundAll (ks : List Section) (g : Held) (left : List ℕ) (t : Held) (q : Place) : Type 0 where
  pub held : Held
  pub last : ℕ
  pub spelled : (sections ks g).Spells left held
  pub same : t ≡ with_last last held
  pub at_end : q.left ≡ []

-- the bytes of a part, in front of those behind it
in_front : (ks ls : List Section) (g k : Held) (left item rest : List ℕ) (t : Held) (q : Place) → left ≡ item ++ rest → ((h : Held) → (sections ls k).Spells rest h → (sections ks g).Spells (item ++ rest) h) → FoundAll ls k rest t q → FoundAll ks g left t q
in_front ks ls g k left item rest t q e f s = record {
  held = s.held;
  last = s.last;
  spelled = subst (λ (zs : List ℕ). (sections ks g).Spells zs s.held) (sym e) (f s.held s.spelled);
  same = s.same;
  at_end = s.at_end;
}

module _ (engine : EngineId) where
  -- a section behind its id, and with it
  present_behind : (k : Section) (rank : ℕ) (i : IsSection engine k rank) (g : Held) (at : ℕ) (bs : List ℕ) → present_read engine k rank i g (place at (k.id ∷ bs)) ≡ held_read engine k rank i g (place (at + 1) bs)
  present_behind k rank i g at bs = ap (λ (b : Bool). then (unless Malformed b (place (at + 1) bs)) (λ _. held_read engine k rank i g)) (eq-eqb k.id k.id refl)

  abbrev FoundIn : ℕ → Type 1
  FoundIn n = (ks : List Section) (r : ℕ) → Suffix engine ks r → (g : Held) (at : ℕ) (left : List ℕ) (t : Held) (q : Place) → sections_to n engine (with_last r g) (place at left) ≡ Ok (both t q) → FoundAll ks g left t q

  module _ (n : ℕ) (ih : FoundIn n) (ks : List Section) (r : ℕ) (s : Suffix engine ks r) (g : Held) (at : ℕ) (bs : List ℕ) (t : Held) (q : Place) where
    custom_found : sections_to (suc n) engine (with_last r g) (place at (0 ∷ bs)) ≡ Ok (both t q) → FoundAll ks g (0 ∷ bs) t q
    custom_found e =
        let h = then_ok (reading.sized custom (place (at + 1) bs)) (λ _. sections_to n engine (with_last r g)) t q (sym (custom_turn engine n (with_last r g) at bs) ∙ e) in
        let m = agree_custom_section.found (place at (0 ∷ bs)) h.0 h.1 h.2 in
        in_front ks ks g g (0 ∷ bs) m.0 h.1.left t q m.2.left (λ k z. custom_front ks g m.0 h.1.left k m.1 z) (ih ks r s g h.1.at h.1.left t q h.3)

    known_found : (b : ℕ) (l : Located engine ks r b) → sections_to (suc n) engine (with_last r g) (place at (l.section.id ∷ bs)) ≡ Ok (both t q) → FoundAll ks g (l.section.id ∷ bs) t q
    known_found b l e =
        let h = then_ok (held_read engine l.section l.rank l.is_section g (place (at + 1) bs)) (λ z. sections_to n engine (with_last l.rank z)) t q (sym (known_turn engine l.section l.rank l.is_section n r g at bs l.later) ∙ e) in
        let m = (agree_present engine l.section l.rank l.is_section g).found (place at (l.section.id ∷ bs)) h.0 h.1 (present_behind l.section l.rank l.is_section g at bs ∙ h.2) in
        in_front ks l.behind g h.0 (l.section.id ∷ bs) m.0 h.1.left t q m.2.left
        (λ z k. l.spells g (m.0 ++ h.1.left) z (there l.section l.behind g h.0 z m.0 h.1.left m.1 k))
        (ih l.behind l.rank l.suffix_is h.0 h.1.at h.1.left t q h.3)

    section_found : (b : ℕ) → sections_to (suc n) engine (with_last r g) (place at (b ∷ bs)) ≡ Ok (both t q) → (is_custom is_there : Bool) → nat_eq b 0 ≡ is_custom → has_id ks b ≡ is_there → FoundAll ks g (b ∷ bs) t q
    section_found b e true c h k =
        let same : b ≡ 0 = eqb-true b 0 h in
        subst (λ (z : ℕ). FoundAll ks g (z ∷ bs) t q) (sym same)
        (custom_found (subst (λ (z : ℕ). sections_to (suc n) engine (with_last r g) (place at (z ∷ bs)) ≡ Ok (both t q)) same e))
    section_found b e false true h k =
        let l = located engine ks r s b k in
        subst (λ (z : ℕ). FoundAll ks g (z ∷ bs) t q) l.id_is
        (known_found b l (subst (λ (z : ℕ). sections_to (suc n) engine (with_last r g) (place at (z ∷ bs)) ≡ Ok (both t q)) (sym l.id_is) e))
    section_found b e false false h k =
        absurd (no_fault (sections_to (suc n) engine (with_last r g) (place at (b ∷ bs))) (both t q) Malformed e (other_turn engine n r g at b bs h (s.others b k)))

  pub found_in : (n : ℕ) → FoundIn n
  found_in zero ks r s g at left t q e = absurd (cc e)
  found_in (suc n) ks r s g at [] t q e = record {
    held = g;
    last = r;
    spelled = nothing_more ks g;
    same = sym (same_value (with_last r g) t (place at []) q e);
    at_end = ap (λ (z : Place). z.left) (sym (same_place (with_last r g) t (place at []) q e));
  }
  found_in (suc n) ks r s g at (b ∷ bs) t q e = section_found n (found_in n) ks r s g at bs t q b e (nat_eq b 0) (has_id ks b) refl refl

  -- ---- a fault that is read is one of the grammar

  abbrev FaultIn : ℕ → Type 1
  FaultIn n = (ks : List Section) (r : ℕ) → Suffix engine ks r → (g : Held) (at : ℕ) (left : List ℕ) (f : BinaryFault) → sections_to n engine (with_last r g) (place at left) ≡ Err f → (f ≡ Malformed) ⊎ (sections ks g).Fails at left f

  module _ (n : ℕ) (ih : FaultIn n) (ks : List Section) (r : ℕ) (s : Suffix engine ks r) (g : Held) (at : ℕ) (bs : List ℕ) (f : BinaryFault) where
    abbrev Owed : ℕ → Type 0
    Owed b = (f ≡ Malformed) ⊎ (sections ks g).Fails at (b ∷ bs) f

    custom_fault : sections_to (suc n) engine (with_last r g) (place at (0 ∷ bs)) ≡ Err f → Owed 0
    custom_fault e = elim (then_err (reading.sized custom (place (at + 1) bs)) (λ _. sections_to n engine (with_last r g)) f (sym (custom_turn engine n (with_last r g) at bs) ∙ e)) [
      | inl h ↦ elim (agree_sized_custom.fault (place (at + 1) bs) f h) [ inl m ↦ inl m | inr m ↦ absurd (no_sized_fault (at + 1) bs f m) ]
      | inr h ↦ elim (ih ks r s g h.1.at h.1.left f h.3) [
        | inl m ↦ inl m
        | inr m ↦
            let c = agree_custom_section.found (place at (0 ∷ bs)) h.0 h.1 h.2 in
            inr (subst (λ (zs : List ℕ). (sections ks g).Fails at zs f) (sym c.2.left)
            (front_fails ks g at c.0 h.1.left f c.1 (fails_at ks g h.1.at (at + length c.0) h.1.left f c.2.at m)))
      ]
    ]

    known_fault : (b : ℕ) (l : Located engine ks r b) → sections_to (suc n) engine (with_last r g) (place at (l.section.id ∷ bs)) ≡ Err f → Owed l.section.id
    known_fault b l e = elim (then_err (held_read engine l.section l.rank l.is_section g (place (at + 1) bs)) (λ z. sections_to n engine (with_last l.rank z)) f (sym (known_turn engine l.section l.rank l.is_section n r g at bs l.later) ∙ e)) [
      | inl h ↦ elim ((agree_held engine l.section l.rank l.is_section g).fault (place (at + 1) bs) f h) [
        | inl m ↦ inl m
        | inr m ↦ inr (l.fails g at (l.section.id ∷ bs) f (here_fails l.section l.behind g at bs f m))
      ]
      | inr h ↦ elim (ih l.behind l.rank l.suffix_is h.0 h.1.at h.1.left f h.3) [
        | inl m ↦ inl m
        | inr m ↦
            let c = (agree_present engine l.section l.rank l.is_section g).found (place at (l.section.id ∷ bs)) h.0 h.1 (present_behind l.section l.rank l.is_section g at bs ∙ h.2) in
            inr (l.fails g at (l.section.id ∷ bs) f
            (subst (λ (zs : List ℕ). (sections (l.section ∷ l.behind) g).Fails at zs f) (sym c.2.left)
            (there_fails l.section l.behind g h.0 at c.0 h.1.left f c.1 (fails_at l.behind h.0 h.1.at (at + length c.0) h.1.left f c.2.at m))))
      ]
    ]

    section_fault : (b : ℕ) → sections_to (suc n) engine (with_last r g) (place at (b ∷ bs)) ≡ Err f → (is_custom is_there : Bool) → nat_eq b 0 ≡ is_custom → has_id ks b ≡ is_there → Owed b
    section_fault b e true c h k =
        let same : b ≡ 0 = eqb-true b 0 h in
        subst Owed (sym same) (custom_fault (subst (λ (z : ℕ). sections_to (suc n) engine (with_last r g) (place at (z ∷ bs)) ≡ Err f) same e))
    section_fault b e false true h k =
        let l = located engine ks r s b k in
        subst Owed l.id_is (known_fault b l (subst (λ (z : ℕ). sections_to (suc n) engine (with_last r g) (place at (z ∷ bs)) ≡ Err f) (sym l.id_is) e))
    section_fault b e false false h k =
        inl (same_fault (sections_to (suc n) engine (with_last r g) (place at (b ∷ bs))) f Malformed e (other_turn engine n r g at b bs h (s.others b k)))

  pub fault_in : (n : ℕ) → FaultIn n
  fault_in zero ks r s g at left f e = let d : Malformed ≡ f = cc e in inl (sym d)
  fault_in (suc n) ks r s g at [] f e = absurd (cc e)
  fault_in (suc n) ks r s g at (b ∷ bs) f e = section_fault n (fault_in n) ks r s g at bs f b e (nat_eq b 0) (has_id ks b) refl refl
