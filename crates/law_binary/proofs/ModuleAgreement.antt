-- Sections up to the end, and whole modules, are read as the grammar has them.
use Rattle.std.proofs.Common.{◌≡◌, ◌⊎◌, ℕ, suc, ◌+◌, List, [], ◌++◌, length, Bool, Result, Ok, Err, inl, inr, arith, refl, sym, ◌∙◌, ap, subst, append-nil}
use Rattle.std.specs.Prelude.{⊤}
use Rattle.wasm_leb.specs.Places.{Place, place}
use Rattle.wasm_types.specs.declared.plain.EngineId.{EngineId}
use Rattle.wasm_syntax.specs.declared.declarations.ModuleDecl.{ModuleDecl}
use Rattle.binary_types.specs.Reading.{Read, then, done, unless, ◌>>=◌, fixed}
use Rattle.binary_types.specs.declared.faults.BinaryFault.{BinaryFault}
use Rattle.binary_types.specs.declared.faults.BinaryFault.TheVariants.{Malformed}
use Rattle.wasm_binary.specs.Modules as read
use Rattle.wasm_binary.specs.Modules.{is_whole, module_by, module_of, module_text, result_of}
use Rattle.wasm_binary.specs.Sections as sections
use Rattle.wasm_binary.specs.Sections.{no_sections, with_last}
use Rattle.law_binary.specs.Agreement.{Agree, AgreeToEnd}
use Rattle.law_binary.specs.Formats as formats
use Rattle.law_binary.specs.Modules as grammar
use Rattle.law_binary.specs.Modules.{HasFault, Held, IsModule, all_sections, order, read_sections}
use Rattle.law_binary.proofs.Combining.{then_ok, then_err, both, no_fault, same_answer, same_fault, same_value, same_place, agree_then}
use Rattle.law_binary.proofs.Lists.{agree_fixed, unless_ok, unless_err}
use Rattle.law_binary.proofs.SectionOrder.{whole_order}
use Rattle.law_binary.proofs.SectionsFound.{FoundAll, fault_in, found_in}
use Rattle.law_binary.proofs.SectionsRead.{ReadAll, first_in, only_in}

-- ---- the header

agree_header : Agree read.header grammar.header
agree_header =
    agree_then (fixed 0x00) _ (formats.the_byte 0x00) _ (agree_fixed 0x00) (λ _.
    agree_then (fixed 0x61) _ (formats.the_byte 0x61) _ (agree_fixed 0x61) (λ _.
    agree_then (fixed 0x73) _ (formats.the_byte 0x73) _ (agree_fixed 0x73) (λ _.
    agree_then (fixed 0x6d) _ (formats.the_byte 0x6d) _ (agree_fixed 0x6d) (λ _.
    agree_then (fixed 0x01) _ (formats.the_byte 0x01) _ (agree_fixed 0x01) (λ _.
    agree_then (fixed 0x00) _ (formats.the_byte 0x00) _ (agree_fixed 0x00) (λ _.
    agree_then (fixed 0x00) _ (formats.the_byte 0x00) _ (agree_fixed 0x00) (λ _.
    agree_fixed 0x00)))))))

-- ---- sections, up to the end

module _ (engine : EngineId) where
  abbrev spelled : List ℕ → Held → Type 0
  spelled bytes t = (grammar.sections (order engine) no_sections).Spells bytes t

  abbrev fails : ℕ → List ℕ → BinaryFault → Type 0
  fails at bytes f = (grammar.sections (order engine) no_sections).Fails at bytes f

  abbrev read_all : Read Held
  read_all = sections.sections engine no_sections

  sections_found : (p : Place) (t : Held) (q : Place) → read_all p ≡ Ok (both t q) → FoundAll (order engine) no_sections p.left t q
  sections_found p t q e = found_in engine (suc (length p.left)) (order engine) 0 (whole_order engine) no_sections p.at p.left t q e

  sections_only : (p : Place) (t : Held) → spelled p.left t → ReadAll engine 0 no_sections t (suc (length p.left)) p.at p.left
  sections_only p t s = only_in engine (order engine) 0 (whole_order engine).all 0 (omega arith) no_sections p.left t s (suc (length p.left)) p.at (omega arith)

  sections_fault : (p : Place) (f : BinaryFault) → read_all p ≡ Err f → (f ≡ Malformed) ⊎ fails p.at p.left f
  sections_fault p f e = fault_in engine (suc (length p.left)) (order engine) 0 (whole_order engine) no_sections p.at p.left f e

  sections_first : (p : Place) (f : BinaryFault) → fails p.at p.left f → read_all p ≡ Err f
  sections_first p f h = first_in engine (order engine) 0 (whole_order engine).all 0 (omega arith) no_sections p.at p.left f h (suc (length p.left)) (omega arith)

  -- what is held, whichever section was the last
  abbrev forgetting : Held → Read Held
  forgetting t = done (with_last 0 t)

  forgotten : (p : Place) (x : Held) (after : Place) → read_sections engine p ≡ Ok (both x after) → (all_sections engine).Spells p.left x × (after.left ≡ [])
  forgotten p x after e =
      let h = then_ok (read_all p) forgetting x after e in
      let m = sections_found p h.0 h.1 h.2 in
      let same : with_last 0 m.held ≡ x = ap (λ (z : Held). with_last 0 z) (sym m.same) ∙ same_value (with_last 0 h.0) x h.1 after h.3 in (
        record { value = m.held; front = p.left; rest = []; split = sym (append-nil p.left); spelled = m.spelled; holds = (refl, sym same) },
        ap (λ (z : Place). z.left) (sym (same_place (with_last 0 h.0) x h.1 after h.3)) ∙ m.at_end,
      )

  remembered : (p : Place) (x : Held) → (all_sections engine).Spells p.left x → read_sections engine p ≡ done x (place (p.at + length p.left) [])
  remembered p x s =
      let whole : s.front ≡ p.left = sym (append-nil s.front) ∙ ap (λ (zs : List ℕ). s.front ++ zs) (sym s.holds.0) ∙ sym s.split in
      let m = sections_only p s.value (subst (λ (zs : List ℕ). spelled zs s.value) whole s.spelled) in
      ap (λ (o : Result (Held × Place) BinaryFault). then o forgetting) m.read
      ∙ (λ j. done (sym s.holds.1 j) (place (p.at + length p.left) []))

  pub agree_all_sections : AgreeToEnd (read_sections engine) (all_sections engine)
  agree_all_sections = record {
    found = forgotten;
    only = remembered;
    fault = λ p f e. elim (then_err (read_all p) forgetting f e) [
      | inl h ↦ elim (sections_fault p f h) [ inl m ↦ inl m | inr m ↦ inr (inl m) ]
      | inr h ↦ absurd (cc h.3)
    ];
    first = λ p f h. elim h [
      | inl k ↦ ap (λ (o : Result (Held × Place) BinaryFault). then o forgetting) (sections_first p f k)
      | inr k ↦ absurd k.holds
    ];
  }

  -- ---- modules

  module _ (number : ℕ) where
    -- what is read behind the header, and behind the sections
    abbrev ending : Held → Read ModuleDecl
    ending s = unless Malformed (is_whole s) >>= (λ _. done (module_by engine number s))

    abbrev behind_header : ⊤ → Read ModuleDecl
    behind_header _ = read_all >>= ending

    abbrev text : Read ModuleDecl
    text = module_text engine number

    abbrev format : formats.Format ModuleDecl
    format = grammar.«module» engine number

    text_found : (p : Place) (m : ModuleDecl) (q : Place) → text p ≡ Ok (both m q) → format.Spells p.left m
    text_found p m q e =
        let h = then_ok (read.header p) behind_header m q e in
        let a = agree_header.found p h.0 h.1 h.2 in
        let s = then_ok (read_all h.1) ending m q h.3 in
        let k = sections_found h.1 s.0 s.1 s.2 in
        let u = then_ok (unless Malformed (is_whole s.0) s.1) (λ _. done (module_by engine number s.0)) m q s.3 in
        let w = unless_ok (is_whole s.0) s.1 u.0 u.1 u.2 in
        record {
          value = h.0;
          front = a.0;
          rest = h.1.left;
          split = a.2.left;
          spelled = a.1;
          holds = record {
            value = k.held;
            front = h.1.left;
            rest = [];
            split = sym (append-nil h.1.left);
            spelled = k.spelled;
            holds = record {
              value = tt;
              front = [];
              rest = [];
              split = refl;
              spelled = (refl, ap is_whole (sym k.same) ∙ w.0);
              holds = (refl, sym (same_value (module_by engine number s.0) m u.1 q u.3) ∙ ap (module_by engine number) k.same);
            };
          };
        }

    text_only : (p : Place) (m : ModuleDecl) → format.Spells p.left m → (q : Place) × (text p ≡ done m q)
    text_only p m s =
        let b = s.holds in
        let c = b.holds in
        let here : Place = place (p.at + length s.front) s.rest in
        let none : b.rest ≡ [] = c.split ∙ ap (λ (zs : List ℕ). zs ++ c.rest) c.spelled.0 ∙ c.holds.0 in
        let whole : b.front ≡ s.rest = sym (append-nil b.front) ∙ ap (λ (zs : List ℕ). b.front ++ zs) (sym none) ∙ sym b.split in
        let k = sections_only here b.value (subst (λ (zs : List ℕ). spelled zs b.value) whole b.spelled) in (
          place ((p.at + length s.front) + length s.rest) [],
          ap (λ (o : Result (⊤ × Place) BinaryFault). then o behind_header) (agree_header.only p s.front s.rest s.value s.split s.spelled)
              ∙ ap (λ (o : Result (Held × Place) BinaryFault). then o ending) k.read
              ∙ ap (λ (test : Bool). then (unless Malformed test (place ((p.at + length s.front) + length s.rest) [])) (λ _. done (module_by engine number b.value))) c.spelled.1
              ∙ (λ j. done (sym c.holds.1 j) (place ((p.at + length s.front) + length s.rest) [])),
        )

    text_fault : (p : Place) (f : BinaryFault) → text p ≡ Err f → (f ≡ Malformed) ⊎ format.Fails p.at p.left f
    text_fault p f e = elim (then_err (read.header p) behind_header f e) [
      | inl h ↦ elim (agree_header.fault p f h) [ inl m ↦ inl m | inr m ↦ inr (inl m) ]
      | inr h ↦ elim (then_err (read_all h.1) ending f h.3) [
        | inl k ↦ elim (sections_fault h.1 f k) [
          | inl m ↦ inl m
          | inr m ↦
              let a = agree_header.found p h.0 h.1 h.2 in
              inr (inr (record {
                value = h.0;
                front = a.0;
                rest = h.1.left;
                split = a.2.left;
                spelled = a.1;
                holds = inl (subst (λ (at : ℕ). fails at h.1.left f) a.2.at m);
              }))
        ]
        | inr k ↦ elim (then_err (unless Malformed (is_whole k.0) k.1) (λ _. done (module_by engine number k.0)) f k.3) [
          | inl u ↦ inl (unless_err (is_whole k.0) k.1 f u)
          | inr u ↦ absurd (cc u.3)
        ]
      ]
    ]

    text_first : (p : Place) (f : BinaryFault) → format.Fails p.at p.left f → text p ≡ Err f
    text_first p f (inl h) = ap (λ (o : Result (⊤ × Place) BinaryFault). then o behind_header) (agree_header.first p f h)
    text_first p f (inr s) =
        ap (λ (o : Result (⊤ × Place) BinaryFault). then o behind_header) (agree_header.only p s.front s.rest s.value s.split s.spelled)
        ∙ elim s.holds [
          | inl h ↦ ap (λ (o : Result (Held × Place) BinaryFault). then o ending) (sections_first (place (p.at + length s.front) s.rest) f h)
          | inr b ↦ elim b.holds [ inl h ↦ absurd h | inr h ↦ absurd h.holds ]
        ]

    -- ---- what is read of all bytes

    result_ok : (r : Result (ModuleDecl × Place) BinaryFault) (m : ModuleDecl) → result_of r ≡ Ok m → (q : Place) × (r ≡ Ok (both m q))
    result_ok (Ok r) m e = let same : r.0 ≡ m = cc e in (r.1, (λ j. Ok (both (same j) r.1)))
    result_ok (Err f) m e = absurd (cc e)

    result_err : (r : Result (ModuleDecl × Place) BinaryFault) (f : BinaryFault) → result_of r ≡ Err f → r ≡ Err f
    result_err (Ok r) f e = absurd (cc e)
    result_err (Err g) f e = let same : g ≡ f = cc e in ap (λ (x : BinaryFault). Err x) same

    pub module_found : (bytes : List ℕ) (m : ModuleDecl) → module_of engine number bytes ≡ Ok m → IsModule engine number bytes m
    module_found bytes m e = let r = result_ok (text (place 0 bytes)) m e in text_found (place 0 bytes) m r.0 r.1

    pub module_only : (bytes : List ℕ) (m : ModuleDecl) → IsModule engine number bytes m → module_of engine number bytes ≡ Ok m
    module_only bytes m s = ap result_of (text_only (place 0 bytes) m s).1

    pub module_fault : (bytes : List ℕ) (f : BinaryFault) → module_of engine number bytes ≡ Err f → (f ≡ Malformed) ⊎ HasFault engine number bytes f
    module_fault bytes f e = text_fault (place 0 bytes) f (result_err (text (place 0 bytes)) f e)

    pub module_first : (bytes : List ℕ) (f : BinaryFault) → HasFault engine number bytes f → module_of engine number bytes ≡ Err f
    module_first bytes f h = ap result_of (text_first (place 0 bytes) f h)

    -- one meaning at most
    pub one_module : (bytes : List ℕ) (m n : ModuleDecl) → IsModule engine number bytes m → IsModule engine number bytes n → m ≡ n
    one_module bytes m n s t = same_answer (module_of engine number bytes) m n (module_only bytes m s) (module_only bytes n t)

    pub one_fault : (bytes : List ℕ) (f g : BinaryFault) → HasFault engine number bytes f → HasFault engine number bytes g → f ≡ g
    one_fault bytes f g s t = same_fault (module_of engine number bytes) f g (module_first bytes f s) (module_first bytes g t)

    pub not_both : (bytes : List ℕ) (m : ModuleDecl) (f : BinaryFault) → IsModule engine number bytes m → HasFault engine number bytes f → ⊥
    not_both bytes m f s h = no_fault (module_of engine number bytes) m f (module_only bytes m s) (module_first bytes f h)

    -- what spells nothing and has no fault
    pub malformed : (bytes : List ℕ) → ((m : ModuleDecl) → IsModule engine number bytes m → ⊥) → ((f : BinaryFault) → HasFault engine number bytes f → ⊥) → module_of engine number bytes ≡ Err Malformed
    malformed bytes none sound = by (module_of engine number bytes) refl
      where
        by : (r : Result ModuleDecl BinaryFault) → module_of engine number bytes ≡ r → r ≡ Err Malformed
        by (Ok m) e = absurd (none m (module_found bytes m e))
        by (Err f) e = elim (module_fault bytes f e) [
          | inl same ↦ ap (λ (g : BinaryFault). Err g) same
          | inr h ↦ absurd (sound f h)
        ]
