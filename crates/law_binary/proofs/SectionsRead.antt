-- Sections of the grammar are read, and so is each fault of it.
use Rattle.std.proofs.Common.{◌≡◌, ℕ, zero, suc, ◌+◌, ◌<◌, ◌≤◌, List, [], ◌∷◌, ◌++◌, length, Result, Err, inl, inr, arith, refl, sym, ◌∙◌, ap, subst, append_assoc}
use Rattle.std.proofs.lemmas.List.{length-append}
use Rattle.std.specs.Prelude.{⊤}
use Rattle.wasm_leb.specs.Places.{Place, place}
use Rattle.wasm_types.specs.declared.plain.EngineId.{EngineId}
use Rattle.binary_types.specs.Reading.{then, done}
use Rattle.binary_types.specs.declared.faults.BinaryFault.{BinaryFault}
use Rattle.wasm_binary.specs.Sections.{sections_to, with_last}
use Rattle.law_binary.specs.Formats.{Format, Begins, InOrder}
use Rattle.law_binary.specs.Formats as formats
use Rattle.law_binary.specs.Modules.{Held, Section, custom_section, present, sections}
use Rattle.law_binary.proofs.Combining.{read_alike}
use Rattle.law_binary.proofs.SectionSteps.{IsSection, agree_held, agree_sized_custom}
use Rattle.law_binary.proofs.SectionOrder.{AreSections}
use Rattle.law_binary.proofs.SectionLoop.{custom_turn, known_turn}

module _ (engine : EngineId) where
  -- the place is what counts
  moved : (n : ℕ) (s : Held) (at end : ℕ) (left rest : List ℕ) → at ≡ end → left ≡ rest → sections_to n engine s (place at left) ≡ sections_to n engine s (place end rest)
  moved n s at end left rest e f = λ j. sections_to n engine s (place (e j) (f j))

  all_read : (n : ℕ) (s : Held) (at : ℕ) (left : List ℕ) → left ≡ [] → 0 < n → sections_to n engine s (place at left) ≡ done s (place at [])
  all_read zero s at left e h = absurd (omega arith)
  all_read (suc n) s at left e h = moved (suc n) s at at left [] refl e

  -- ---- custom sections

  pub record Passed (s : Held) (rest : List ℕ) (at end n : ℕ) (bytes : List ℕ) : Type 0 where
    pub turns : ℕ
    pub enough : length rest < turns
    pub same : sections_to n engine s (place at bytes) ≡ sections_to turns engine s (place end rest)

  customs_read : (s : Held) (xs : List ⊤) (front rest : List ℕ) (at n : ℕ) → InOrder custom_section.Spells front xs → length (front ++ rest) < n → Passed s rest at (at + length front) n (front ++ rest)
  customs_read s [] front rest at n io h = record {
    turns = n;
    enough = omega (arith, length-append front rest);
    same = moved n s at (at + length front) (front ++ rest) rest (omega (arith, ap length io)) (ap (λ (zs : List ℕ). zs ++ rest) io);
  }
  customs_read s (x ∷ xs) front rest at zero io h = absurd (omega arith)
  customs_read s (x ∷ xs) front rest at (suc n) io h =
      let c = io.3 in
      let behind : List ℕ = io.1 ++ rest in
      let split : front ++ rest ≡ 0 ∷ (c.rest ++ behind) =
      ap (λ (zs : List ℕ). zs ++ rest) (io.2 ∙ ap (λ (zs : List ℕ). zs ++ io.1) (c.split ∙ ap (λ (zs : List ℕ). zs ++ c.rest) c.spelled))
      ∙ append_assoc (0 ∷ c.rest) io.1 rest in
      let size : length front ≡ 1 + length c.rest + length io.1 = omega (arith, ap length io.2, length-append io.0 io.1, ap length c.split, length-append c.front c.rest, ap length c.spelled) in
      let k = customs_read s xs io.1 rest ((at + 1) + length c.rest) n io.4 (omega (arith, size, length-append front rest, length-append io.1 rest)) in
      record {
        turns = k.turns;
        enough = k.enough;
        same =
            moved (suc n) s at at (front ++ rest) (0 ∷ (c.rest ++ behind)) refl split
            ∙ custom_turn engine n s at (c.rest ++ behind)
            ∙ ap (λ (o : Result (⊤ × Place) BinaryFault). then o (λ _. sections_to n engine s)) (agree_sized_custom.only (place (at + 1) (c.rest ++ behind)) c.rest behind x refl c.holds)
            ∙ k.same
            ∙ moved k.turns s (((at + 1) + length c.rest) + length io.1) (at + length front) rest rest (omega (arith, size)) refl;
      }

  -- ---- a section that is there

  present_turn : (k : Section) (rank : ℕ) (i : IsSection engine k rank) (n l : ℕ) (g h : Held) (at : ℕ) (bytes front rest : List ℕ) → l < rank → bytes ≡ front ++ rest → (present k g).Spells front h → sections_to (suc n) engine (with_last l g) (place at bytes) ≡ sections_to n engine (with_last rank h) (place (at + length front) rest)
  present_turn k rank i n l g h at bytes front rest lt e s =
      let split : bytes ≡ k.id ∷ (s.rest ++ rest) = e ∙ ap (λ (zs : List ℕ). zs ++ rest) (s.split ∙ ap (λ (zs : List ℕ). zs ++ s.rest) s.spelled) in
      let size : length front ≡ 1 + length s.rest = omega (arith, ap length s.split, length-append s.front s.rest, ap length s.spelled) in
      moved (suc n) (with_last l g) at at bytes (k.id ∷ (s.rest ++ rest)) refl split
      ∙ known_turn engine k rank i n l g at (s.rest ++ rest) lt
      ∙ ap (λ (o : Result (Held × Place) BinaryFault). then o (λ z. sections_to n engine (with_last rank z))) ((agree_held engine k rank i g).only (place (at + 1) (s.rest ++ rest)) s.rest rest h refl s.holds)
      ∙ moved n (with_last rank h) ((at + 1) + length s.rest) (at + length front) rest rest (omega (arith, size)) refl

  present_size : (k : Section) (g h : Held) (front : List ℕ) → (present k g).Spells front h → 1 ≤ length front
  present_size k g h front s = omega (arith, ap length s.split, length-append s.front s.rest, ap length s.spelled)

  present_fault : (k : Section) (rank : ℕ) (i : IsSection engine k rank) (n l : ℕ) (g : Held) (at : ℕ) (bytes : List ℕ) (f : BinaryFault) → l < rank → (present k g).Fails at bytes f → sections_to (suc n) engine (with_last l g) (place at bytes) ≡ Err f
  present_fault k rank i n l g at bytes f lt (inl h) = absurd h
  present_fault k rank i n l g at bytes f lt (inr h) =
      let split : bytes ≡ k.id ∷ h.rest = h.split ∙ ap (λ (zs : List ℕ). zs ++ h.rest) h.spelled in
      let now : (formats.◌>>=◌ (formats.sized (k.content g)) (λ x. formats.gives (k.put x g))).Fails (at + 1) h.rest f =
      subst (λ (m : ℕ). (formats.◌>>=◌ (formats.sized (k.content g)) (λ x. formats.gives (k.put x g))).Fails m h.rest f) (omega (arith, ap length h.spelled)) h.holds in
      moved (suc n) (with_last l g) at at bytes (k.id ∷ h.rest) refl split
      ∙ known_turn engine k rank i n l g at h.rest lt
      ∙ ap (λ (o : Result (Held × Place) BinaryFault). then o (λ z. sections_to n engine (with_last rank z))) ((agree_held engine k rank i g).first (place (at + 1) h.rest) f now)

  -- ---- all sections

  pub record ReadAll (l : ℕ) (g t : Held) (n at : ℕ) (bytes : List ℕ) : Type 0 where
    pub last : ℕ
    pub read : sections_to n engine (with_last l g) (place at bytes) ≡ done (with_last last t) (place (at + length bytes) [])

  read_on : (l m : ℕ) (g h t : Held) (n k at end : ℕ) (bytes rest : List ℕ) → sections_to n engine (with_last l g) (place at bytes) ≡ sections_to k engine (with_last m h) (place end rest) → end + length rest ≡ at + length bytes → ReadAll m h t k end rest → ReadAll l g t n at bytes
  read_on l m g h t n k at end bytes rest e f r = record {
    last = r.last;
    read = e ∙ r.read ∙ (λ j. done (with_last r.last t) (place (f j) []));
  }

  pub only_in : (ks : List Section) (r : ℕ) → AreSections engine ks r → (l : ℕ) → l ≤ r → (g : Held) (bytes : List ℕ) (t : Held) → (sections ks g).Spells bytes t → (n at : ℕ) → length bytes < n → ReadAll l g t n at bytes
  only_in [] r a l le g bytes t s n at h =
      let c = customs_read (with_last l g) s.spelled.0 s.front s.rest at n s.spelled.1 (omega (arith, ap length s.split)) in
      record {
        last = l;
        read =
            moved n (with_last l g) at at bytes (s.front ++ s.rest) refl s.split ∙ c.same
            ∙ all_read c.turns (with_last l g) (at + length s.front) s.rest s.holds.0 (omega (arith, c.enough))
            ∙ (λ j. done (with_last l (sym s.holds.1 j)) (place (at + length s.front) []))
            ∙ read_alike (with_last l t) (with_last l t) (at + length s.front) (at + length bytes) [] [] refl (omega (arith, ap length s.split, length-append s.front s.rest, ap length s.holds.0)) refl;
      }
  only_in (k ∷ ks) r a l le g bytes t s n at h =
      let c = customs_read (with_last l g) s.spelled.0 s.front s.rest at n s.spelled.1 (omega (arith, ap length s.split)) in
      let b = s.holds in
      let start : sections_to n engine (with_last l g) (place at bytes) ≡ sections_to c.turns engine (with_last l g) (place (at + length s.front) s.rest) =
      moved n (with_last l g) at at bytes (s.front ++ s.rest) refl s.split ∙ c.same in
      let whole : length bytes ≡ length s.front + length s.rest = ap length s.split ∙ length-append s.front s.rest in
      let inside : length s.rest ≡ length b.front + length b.rest = ap length b.split ∙ length-append b.front b.rest in
      elim b.spelled [
        | inl u ↦
            let left : s.rest ≡ b.rest = b.split ∙ ap (λ (zs : List ℕ). zs ++ b.rest) u.0 in
            let one : length b.front ≡ 0 = ap length u.0 in
            read_on l l g g t n c.turns at (at + length s.front) bytes b.rest
            (start ∙ moved c.turns (with_last l g) (at + length s.front) (at + length s.front) s.rest b.rest refl left)
            (omega (arith, whole, inside, one))
            (only_in ks (suc r) a.1 l (omega arith) g b.rest t (subst (λ (z : Held). (sections ks z).Spells b.rest t) u.1 b.holds) c.turns (at + length s.front) (omega (arith, c.enough, inside)))
        | inr u ↦
            let some : 1 ≤ length b.front = present_size k g b.value b.front u in
            turned (λ v rest z m end few. only_in ks (suc r) a.1 (suc r) (omega arith) v rest t z m end few) c.turns c.enough b.front b.rest b.value u b.split b.holds start whole inside some
      ]
    where
      turned : ((v : Held) (rest : List ℕ) → (sections ks v).Spells rest t → (m end : ℕ) → length rest < m → ReadAll (suc r) v t m end rest) → (m : ℕ) → length s.rest < m → (front rest : List ℕ) (v : Held) → (present k g).Spells front v → s.rest ≡ front ++ rest → (sections ks v).Spells rest t → sections_to n engine (with_last l g) (place at bytes) ≡ sections_to m engine (with_last l g) (place (at + length s.front) s.rest) → length bytes ≡ length s.front + length s.rest → length s.rest ≡ length front + length rest → 1 ≤ length front → ReadAll l g t n at bytes
      turned go zero lt front rest v u split rest_is start whole inside some = absurd (omega arith)
      turned go (suc m) lt front rest v u split rest_is start whole inside some =
          read_on l (suc r) g v t n m at ((at + length s.front) + length front) bytes rest
          (start ∙ present_turn k (suc r) a.0 m l g v (at + length s.front) s.rest front rest (omega arith) split u)
          (omega (arith, whole, inside))
          (go v rest rest_is m ((at + length s.front) + length front) (omega (arith, inside)))

  -- ---- the first fault

  pub first_in : (ks : List Section) (r : ℕ) → AreSections engine ks r → (l : ℕ) → l ≤ r → (g : Held) (at : ℕ) (bytes : List ℕ) (f : BinaryFault) → (sections ks g).Fails at bytes f → (n : ℕ) → length bytes < n → sections_to n engine (with_last l g) (place at bytes) ≡ Err f
  first_in [] r a l le g at bytes f (inl h) n lt = absurd h
  first_in [] r a l le g at bytes f (inr s) n lt = absurd s.holds
  first_in (k ∷ ks) r a l le g at bytes f (inl h) n lt = absurd h
  first_in (k ∷ ks) r a l le g at bytes f (inr s) n lt =
      let c = customs_read (with_last l g) s.spelled.0 s.front s.rest at n s.spelled.1 (omega (arith, lt, ap length s.split)) in
      moved n (with_last l g) at at bytes (s.front ++ s.rest) refl s.split ∙ c.same
      ∙ elim s.holds [
        | inl h ↦ failed c.turns c.enough h
        | inr b ↦ elim b.spelled [
          | inl u ↦
              let left : s.rest ≡ b.rest = b.split ∙ ap (λ (zs : List ℕ). zs ++ b.rest) u.0 in
              let one : length b.front ≡ 0 = ap length u.0 in
              let inside : length s.rest ≡ length b.front + length b.rest = ap length b.split ∙ length-append b.front b.rest in
              moved c.turns (with_last l g) (at + length s.front) ((at + length s.front) + length b.front) s.rest b.rest (omega (arith, one)) left
              ∙ first_in ks (suc r) a.1 l (omega (arith, le)) g ((at + length s.front) + length b.front) b.rest f
              (subst (λ (z : Held). (sections ks z).Fails ((at + length s.front) + length b.front) b.rest f) u.1 b.holds) c.turns (omega (arith, c.enough, inside, one))
          | inr u ↦ turned (λ v rest end z m few. first_in ks (suc r) a.1 (suc r) (omega arith) v end rest f z m few) c.turns c.enough b.front b.rest b.value u b.split b.holds
        ]
      ]
    where
      failed : (m : ℕ) → length s.rest < m → (present k g).Fails (at + length s.front) s.rest f → sections_to m engine (with_last l g) (place (at + length s.front) s.rest) ≡ Err f
      failed zero few h = absurd (omega arith)
      failed (suc m) few h = present_fault k (suc r) a.0 m l g (at + length s.front) s.rest f (omega (arith, le)) h

      turned : ((v : Held) (rest : List ℕ) (end : ℕ) → (sections ks v).Fails end rest f → (m : ℕ) → length rest < m → sections_to m engine (with_last (suc r) v) (place end rest) ≡ Err f) → (m : ℕ) → length s.rest < m → (front rest : List ℕ) (v : Held) → (present k g).Spells front v → s.rest ≡ front ++ rest → (sections ks v).Fails ((at + length s.front) + length front) rest f → sections_to m engine (with_last l g) (place (at + length s.front) s.rest) ≡ Err f
      turned go zero few front rest v u split h = absurd (omega arith)
      turned go (suc m) few front rest v u split h =
          let some : 1 ≤ length front = present_size k g v front u in
          let inside : length s.rest ≡ length front + length rest = ap length split ∙ length-append front rest in
          present_turn k (suc r) a.0 m l g v (at + length s.front) s.rest front rest (omega (arith, le)) split u
          ∙ go v rest ((at + length s.front) + length front) h m (omega (arith, few, some, inside))
