-- Sections, one by one: what the loop over them does at each id.
use Rattle.std.proofs.Common.{◌≡◌, ℕ, ◌+◌, ◌<◌, List, [], ◌++◌, length, Bool, true, false, Some, Result, Ok, Err, inl, inr, arith, refl, sym, ◌∙◌, ap, append-nil, nat_eq, nat_lt}
use Rattle.std.proofs.lemmas.Bool.{lt-ltb}
use Rattle.std.proofs.lemmas.List.{length-append}
use Rattle.std.specs.Prelude.{⊤, option_map}
use Rattle.wasm_leb.specs.Places.{Place, place}
use Rattle.wasm_types.specs.declared.plain.EngineId.{EngineId}
use Rattle.binary_types.specs.Reading.{Read, then, done, unless, some_or, ◌>>=◌, fixed, all_read}
use Rattle.binary_types.specs.Reading as reading
use Rattle.binary_types.specs.declared.faults.BinaryFault.{BinaryFault}
use Rattle.binary_types.specs.declared.faults.BinaryFault.TheVariants.{Malformed}
use Rattle.wasm_binary.specs.Sections.{custom, kind_of, rank_of, section_if, with_last}
use Rattle.law_binary.specs.Agreement.{Agree}
use Rattle.law_binary.specs.Formats.{Format, Begins, InOrder}
use Rattle.law_binary.specs.Formats as formats
use Rattle.law_binary.specs.Modules as grammar
use Rattle.law_binary.specs.Modules.{Held, Section}
use Rattle.law_binary.proofs.Combining.{then_ok, then_err, both_lie, lie_on, read_alike, same_place, agree_then}
use Rattle.law_binary.proofs.Lists.{AgreeWhole, agree_within}
use Rattle.law_binary.proofs.Items.{agree_name, agree_sized, agree_u32}
use Rattle.law_binary.proofs.TypeAgreement.{then_then}
use Rattle.law_binary.proofs.DeclarationAgreement.{agree_as, agree_behind}

-- ---- custom sections

agree_custom : AgreeWhole custom grammar.custom
agree_custom = record {
  found = λ p x after e.
      let h = then_ok (reading.name p) (λ _ q. done tt (place (q.at + length q.left) [])) x after e in
      let m = agree_name.found p h.0 h.1 h.2 in
      let end : place (h.1.at + length h.1.left) [] ≡ after = same_place tt x (place (h.1.at + length h.1.left) []) after h.3 in (
        m.0 ++ h.1.left,
        record { value = h.0; front = m.0; rest = h.1.left; split = refl; spelled = m.1; holds = tt },
        lie_on p (place (h.1.at + length h.1.left) []) after (m.0 ++ h.1.left)
            (both_lie p h.1 (place (h.1.at + length h.1.left) []) m.0 h.1.left m.2 (record { left = sym (append-nil h.1.left); at = refl })) end,
      );
  only = λ p x s.
      ap (λ (o : Result (List ℕ × Place) BinaryFault). then o (λ _ q. done tt (place (q.at + length q.left) []))) (agree_name.only p s.front s.rest s.value s.split s.spelled)
      ∙ read_alike tt x ((p.at + length s.front) + length s.rest) (p.at + length p.left) [] [] refl (omega (arith, ap length s.split, length-append s.front s.rest)) refl;
  fault = λ p f e. elim (then_err (reading.name p) (λ _ q. done tt (place (q.at + length q.left) [])) f e) [
    | inl h ↦ elim (agree_name.fault p f h) [ inl m ↦ inl m | inr m ↦ absurd m ]
    | inr h ↦ absurd (cc h.3)
  ];
  first = λ p f h. elim h [ inl k ↦ absurd k | inr k ↦ absurd k.holds ];
}

abbrev pub custom_read : Read ⊤
custom_read = fixed 0 >>= (λ _. reading.sized custom)

pub agree_sized_custom : Agree (reading.sized custom) (formats.sized grammar.custom)
agree_sized_custom = agree_then reading.u32 (reading.within custom) formats.u32 (λ n. formats.within n grammar.custom) agree_u32 (λ n. agree_within n custom grammar.custom agree_custom)

pub agree_custom_section : Agree custom_read grammar.custom_section
agree_custom_section = agree_behind 0 (reading.sized custom) (formats.sized grammar.custom) agree_sized_custom

pub no_sized_fault : (at : ℕ) (bytes : List ℕ) (f : BinaryFault) → (formats.sized grammar.custom).Fails at bytes f → ⊥
no_sized_fault at bytes f (inl h) = h
no_sized_fault at bytes f (inr h) = elim h.holds.1 [ inl m ↦ m | inr m ↦ m.holds ]

-- ---- a section that is known

-- what is put somewhere behind a part that was read
put_behind : {A B : Type 0} (behind : Place) (r : Result (A × Place) BinaryFault) (f : A → B) → all_read behind (then r (λ x. done (f x))) ≡ then (all_read behind r) (λ x. done (f x))
put_behind behind (Ok (x, end)) f = by (nat_eq (length end.left) 0)
  where
    by : (b : Bool) → then (unless Malformed b end) (λ _ _. done (f x) behind) ≡ then (then (unless Malformed b end) (λ _ _. done x behind)) (λ y. done (f y))
    by true = refl
    by false = refl
put_behind behind (Err e) f = refl

pub sized_put : {A B : Type 0} (r : Read A) (f : A → B) (p : Place) → reading.sized (r >>= (λ x. done (f x))) p ≡ then (reading.sized r p) (λ x. done (f x))
sized_put r f p =
    (λ i. then (reading.u32 p) (λ n q. then (reading.raw n q) (λ part behind. put_behind behind (r (place q.at part)) f i)))
    ∙ (λ i. then (reading.u32 p) (λ n q. then_then (reading.raw n q) (λ part behind. all_read behind (r (place q.at part))) (λ x. done (f x)) i))
    ∙ then_then (reading.u32 p) (reading.within r) (λ x. done (f x))

-- a section of the grammar, as it is read: its place in the order, and what is read of it
pub record IsSection (engine : EngineId) (k : Section) (rank : ℕ) : Type 0 where
  pub read : Held → Read k.Value
  pub agree : (g : Held) → Agree (read g) (k.content g)
  pub not_custom : nat_eq k.id 0 ≡ false
  pub rank_is : option_map rank_of (kind_of k.id) ≡ Some rank
  pub is_read : (l : ℕ) (g : Held) (p : Place) → section_if false engine k.id (with_last l g) p ≡ then (unless Malformed (nat_lt l rank) p) (λ _. reading.sized (read g >>= (λ x. done (with_last l (k.put x g)))) >>= (λ t. done (with_last rank t)))

module _ (engine : EngineId) (k : Section) (rank : ℕ) (s : IsSection engine k rank) where
  -- behind its id
  abbrev pub held_read : Held → Read Held
  held_read g = reading.sized (s.read g) >>= (λ x. done (k.put x g))

  pub known_is : (l : ℕ) (g : Held) (p : Place) → l < rank → section_if false engine k.id (with_last l g) p ≡ then (held_read g p) (λ h. done (with_last rank h))
  known_is l g p h =
      s.is_read l g p
      ∙ ap (λ (b : Bool). then (unless Malformed b p) (λ _. reading.sized (s.read g >>= (λ x. done (with_last l (k.put x g)))) >>= (λ t. done (with_last rank t)))) (lt-ltb l rank h)
      ∙ ap (λ (o : Result (Held × Place) BinaryFault). then o (λ t. done (with_last rank t))) (sized_put (s.read g) (λ x. with_last l (k.put x g)) p)
      ∙ sym (then_then (reading.sized (s.read g) p) (λ x. done (with_last l (k.put x g))) (λ t. done (with_last rank t)))
      ∙ then_then (reading.sized (s.read g) p) (λ x. done (k.put x g)) (λ t. done (with_last rank t))

  -- with its id
  abbrev pub present_read : Held → Read Held
  present_read g = fixed k.id >>= (λ _. held_read g)

  pub agree_held : (g : Held) → Agree (held_read g) (formats.◌>>=◌ (formats.sized (k.content g)) (λ x. formats.gives (k.put x g)))
  agree_held g = agree_as (reading.sized (s.read g)) (formats.sized (k.content g)) (λ x. k.put x g) (agree_sized (s.read g) (k.content g) (s.agree g))

  pub agree_present : (g : Held) → Agree (present_read g) (grammar.present k g)
  agree_present g = agree_behind k.id (held_read g) (formats.◌>>=◌ (formats.sized (k.content g)) (λ x. formats.gives (k.put x g))) (agree_held g)
