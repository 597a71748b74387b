-- Readers of parts that are refused, that begin with a code, and that stand in lists agree with the formats of such parts.
use Rattle.std.proofs.Common.{◌≡◌, ◌⊎◌, ℕ, ◌+◌, List, [], ◌∷◌, ◌++◌, length, Bool, true, false, nat_eq, Option, Some, None, Result, Ok, Err, inl, inr, arith, refl, sym, ◌∙◌, ap, subst, append_assoc, cond}
use Rattle.std.proofs.lemmas.Bool.{eqb-true, eqb-false, eq-eqb, ne_eqb}
use Rattle.std.proofs.lemmas.List.{length-append}
use Rattle.wasm_leb.specs.Items.{Lie}
use Rattle.wasm_leb.specs.Places.{Place, place}
use Rattle.wasm_types.specs.declared.faults.TypeFault.{TypeFault}
use Rattle.binary_types.specs.Reading.{Read, ◌>>=◌, then, done, peek, some_or}
use Rattle.binary_types.specs.Reading as reading
use Rattle.binary_types.specs.declared.faults.BinaryFault.{BinaryFault}
use Rattle.binary_types.specs.declared.faults.BinaryFault.TheVariants.{Malformed, Unsupported, Refused}
use Rattle.law_binary.specs.Agreement.{Agree}
use Rattle.law_binary.specs.Formats.{Format, Rows, RowSpells, RowFails, HasNoRow, by_code, unless_refused}
use Rattle.wasm_leb.proofs.NumberLemmas.{chosen, taken}
use Rattle.law_binary.proofs.Combining.{then_ok, then_err, both, read_alike, same_value, same_place, no_bytes_lie, both_lie, lie_on, some_or_ok, some_or_err}

-- ---- a part that is refused

abbrev pub refuse : {A : Type 0} → ℕ → Option TypeFault → A → Read A
refuse at None x p = Ok (x, p)
refuse at (Some rule) x p = Err (Refused at rule)

refuse_ok : {A : Type 0} (at : ℕ) (o : Option TypeFault) (x : A) (p : Place) (y : A) (q : Place) → refuse at o x p ≡ Ok (both y q) → (o ≡ None) × (x ≡ y) × (p ≡ q)
refuse_ok at None x p y q e = (refl, same_value x y p q e, same_place x y p q e)
refuse_ok at (Some rule) x p y q e = absurd (cc e)

refuse_err : {A : Type 0} (at : ℕ) (o : Option TypeFault) (x : A) (p : Place) (f : BinaryFault) → refuse at o x p ≡ Err f → (rule : TypeFault) × (o ≡ Some rule) × (f ≡ Refused at rule)
refuse_err at None x p f e = absurd (cc e)
refuse_err at (Some rule) x p f e = let s : Refused at rule ≡ f = cc e in (rule, refl, sym s)

abbrev pub refusing : {A : Type 0} → Read A → (A → Option TypeFault) → Read A
refusing r broken p = then (r p) (λ x q. refuse p.at (broken x) x q)

pub agree_refusing : {A : Type 0} (r : Read A) (F : Format A) (broken : A → Option TypeFault) → Agree r F → Agree (refusing r broken) (unless_refused F broken)
agree_refusing {A = A} r F broken a = record {
  found = λ p y after e.
      let h = then_ok (r p) (λ x q. refuse p.at (broken x) x q) y after e in
      let m = a.found p h.0 h.1 h.2 in
      let k = refuse_ok p.at (broken h.0) h.0 h.1 y after h.3 in
      (m.0, subst (λ (z : A). F.Spells m.0 z × (broken z ≡ None)) k.1 (m.1, k.0), lie_on p h.1 after m.0 m.2 k.2);
  only = λ p item rest y e t.
      ap (λ (o : Result (A × Place) BinaryFault). then o (λ x q. refuse p.at (broken x) x q)) (a.only p item rest y e t.0)
      ∙ ap (λ (o : Option TypeFault). refuse p.at o y (place (p.at + length item) rest)) t.1;
  fault = λ p f e. elim (then_err (r p) (λ x q. refuse p.at (broken x) x q) f e) [
    | inl h ↦ elim (a.fault p f h) [ inl m ↦ inl m | inr m ↦ inr (inl m) ]
    | inr h ↦
        let m = a.found p h.0 h.1 h.2 in
        inr (inr (record {
          value = h.0;
          front = m.0;
          rest = h.1.left;
          split = m.2.left;
          spelled = m.1;
          holds = refuse_err p.at (broken h.0) h.0 h.1 f h.3;
        }))
  ];
  first = λ p f h. elim h [
    | inl k ↦ ap (λ (o : Result (A × Place) BinaryFault). then o (λ x q. refuse p.at (broken x) x q)) (a.first p f k)
    | inr k ↦
        ap (λ (o : Result (A × Place) BinaryFault). then o (λ x q. refuse p.at (broken x) x q)) (a.only p k.front k.rest k.value k.split k.spelled)
        ∙ ap (λ (o : Option TypeFault). refuse p.at o k.value (place (p.at + length k.front) k.rest)) k.holds.1
        ∙ ap (λ (g : BinaryFault). Err g) (sym k.holds.2)
  ];
}

-- ---- a part that begins with a code

-- what follows each code, in the order in which the codes are tried
abbrev pub Chain : Type 0 → Type 0
Chain A = List (ℕ × Read A)

abbrev pub chained : {A : Type 0} → (ℕ → Option A) → Chain A → ℕ → ℕ → Read A
chained table [] at code p = some_or (Unsupported at code) (table code) p
chained table (row ∷ rows) at code p = cond (nat_eq code row.0) (row.1 p) (chained table rows at code p)

-- each row agrees, and no code stands twice or in the table
abbrev pub stands_in : {A : Type 0} → Chain A → ℕ → Bool
stands_in [] code = false
stands_in (row ∷ rows) code = cond (nat_eq row.0 code) true (stands_in rows code)

abbrev pub AgreeRows : {A : Type 0} → (ℕ → Option A) → Chain A → Rows A → Type 0
AgreeRows table [] [] = Unit {0}
AgreeRows table [] (row ∷ rows) = ⊥
AgreeRows table (read ∷ reads) [] = ⊥
AgreeRows table (read ∷ reads) (row ∷ rows) =
    (read.0 ≡ row.0) × (table row.0 ≡ None) × (stands_in reads row.0 ≡ false) × Agree read.1 row.1 × AgreeRows table reads rows

pub left_out : {A : Type 0} (b : Bool) (x y : A) → b ≡ false → cond b x y ≡ y
left_out false x y e = refl
left_out true x y e = absurd (cc e)

none_some : {A : Type 0} (o : Option A) (x : A) → o ≡ None → o ≡ Some x → ⊥
none_some o x e f = cc e

-- what a code that was read leads to
abbrev pub Behind : {A : Type 0} → (ℕ → Option A) → Rows A → ℕ → List ℕ → A → Type 0
Behind table rows code rest x = ((table code ≡ Some x) × (rest ≡ [])) ⊎ RowSpells rows code rest x

abbrev pub Astray : {A : Type 0} → (ℕ → Option A) → Rows A → ℕ → ℕ → Place → BinaryFault → Type 0
Astray table rows at code q f =
    RowFails rows code q.at q.left f ⊎ ((table code ≡ None) × HasNoRow rows code × (f ≡ Unsupported at code))

module _ {A : Type 0} (table : ℕ → Option A) where
  chain_found : (reads : Chain A) (rows : Rows A) → AgreeRows table reads rows → (at code : ℕ) (q : Place) (x : A) (after : Place) → chained table reads at code q ≡ Ok (both x after) → (rest : List ℕ) × Behind table rows code rest x × Lie q rest after
  chain_found [] [] a at code q x after e =
      let h = some_or_ok (Unsupported at code) (table code) q x after e in
      ([], inl (h.0, refl), no_bytes_lie q after h.1)
  chain_found [] (row ∷ rows) a at code q x after e = absurd a
  chain_found (read ∷ reads) [] a at code q x after e = absurd a
  chain_found (read ∷ reads) (row ∷ rows) a at code q x after e =
      elim (chosen (nat_eq code read.0) _ _ (Ok (both x after)) e) [
        | inl h ↦ let m = a.3.found q x after h.1 in
            (m.0, inr (inl (eqb-true code read.0 h.0 ∙ a.0, m.1)), m.2)
        | inr h ↦ let m = chain_found reads rows a.4 at code q x after h.1 in
            (m.0, elim m.1 [ inl t ↦ inl t | inr s ↦ inr (inr s) ], m.2)
      ]

  chain_fault : (reads : Chain A) (rows : Rows A) → AgreeRows table reads rows → (at code : ℕ) (q : Place) (f : BinaryFault) → chained table reads at code q ≡ Err f → (f ≡ Malformed) ⊎ Astray table rows at code q f
  chain_fault [] [] a at code q f e =
      let h = some_or_err (Unsupported at code) (table code) q f e in
      inr (inr (h.0, tt, h.1))
  chain_fault [] (row ∷ rows) a at code q f e = absurd a
  chain_fault (read ∷ reads) [] a at code q f e = absurd a
  chain_fault (read ∷ reads) (row ∷ rows) a at code q f e =
      elim (chosen (nat_eq code read.0) _ _ (Err f) e) [
        | inl h ↦ elim (a.3.fault q f h.1) [
          | inl m ↦ inl m
          | inr m ↦ inr (inl (inl (eqb-true code read.0 h.0 ∙ a.0, m)))
        ]
        | inr h ↦ elim (chain_fault reads rows a.4 at code q f h.1) [
          | inl m ↦ inl m
          | inr m ↦ elim m [
            | inl k ↦ inr (inl (inr k))
            | inr k ↦ inr (inr (k.0, ((λ same. eqb-false code read.0 h.0 (same ∙ sym a.0)), k.1), k.2))
          ]
        ]
      ]

  -- a row that is not this one has another code
  abbrev IsCode : Rows A → ℕ → Type 0
  IsCode [] code = ⊥
  IsCode (row ∷ rows) code = (code ≡ row.0) ⊎ IsCode rows code

  spelled_code : (rows : Rows A) (code : ℕ) (rest : List ℕ) (x : A) → RowSpells rows code rest x → IsCode rows code
  spelled_code [] code rest x s = absurd s
  spelled_code (row ∷ rows) code rest x (inl s) = inl s.0
  spelled_code (row ∷ rows) code rest x (inr s) = inr (spelled_code rows code rest x s)

  failed_code : (rows : Rows A) (code at : ℕ) (bytes : List ℕ) (f : BinaryFault) → RowFails rows code at bytes f → IsCode rows code
  failed_code [] code at bytes f s = absurd s
  failed_code (row ∷ rows) code at bytes f (inl s) = inl s.0
  failed_code (row ∷ rows) code at bytes f (inr s) = inr (failed_code rows code at bytes f s)

  other_code : (reads : Chain A) (rows : Rows A) → AgreeRows table reads rows → (code other : ℕ) → stands_in reads other ≡ false → IsCode rows code → code ≡ other → ⊥
  other_code [] [] a code other h i e = absurd i
  other_code [] (row ∷ rows) a code other h i e = absurd a
  other_code (read ∷ reads) [] a code other h i e = absurd a
  other_code (read ∷ reads) (row ∷ rows) a code other h (inl i) e =
      elim (chosen (nat_eq read.0 other) _ _ false h) [
        | inl k ↦ absurd (cc k.1)
        | inr k ↦ eqb-false read.0 other k.0 (a.0 ∙ sym i ∙ e)
      ]
  other_code (read ∷ reads) (row ∷ rows) a code other h (inr i) e =
      elim (chosen (nat_eq read.0 other) _ _ false h) [
        | inl k ↦ absurd (cc k.1)
        | inr k ↦ other_code reads rows a.4 code other k.1 i e
      ]

  not_here : (read : ℕ × Read A) (row : ℕ × Format A) (reads : Chain A) (rows : Rows A) → read.0 ≡ row.0 → AgreeRows table reads rows → stands_in reads row.0 ≡ false → (code : ℕ) → IsCode rows code → nat_eq code read.0 ≡ false
  not_here read row reads rows e a n code i =
      ne_eqb code read.0 (λ same. other_code reads rows a code row.0 n i (same ∙ e))

  table_read : (reads : Chain A) (rows : Rows A) → AgreeRows table reads rows → (at code : ℕ) (q : Place) (x : A) → table code ≡ Some x → chained table reads at code q ≡ done x q
  table_read [] [] a at code q x t = ap (λ (o : Option A). some_or (Unsupported at code) o q) t
  table_read [] (row ∷ rows) a at code q x t = absurd a
  table_read (read ∷ reads) [] a at code q x t = absurd a
  table_read (read ∷ reads) (row ∷ rows) a at code q x t =
      let other : nat_eq code read.0 ≡ false = ne_eqb code read.0 (λ same. none_some (table row.0) x a.1 (ap table (sym (same ∙ a.0)) ∙ t)) in
      left_out (nat_eq code read.0) (read.1 q) _ other ∙ table_read reads rows a.4 at code q x t

  row_read : (reads : Chain A) (rows : Rows A) → AgreeRows table reads rows → (at code : ℕ) (q : Place) (item rest : List ℕ) (x : A) → q.left ≡ item ++ rest → RowSpells rows code item x → chained table reads at code q ≡ done x (place (q.at + length item) rest)
  row_read [] [] a at code q item rest x e s = absurd s
  row_read [] (row ∷ rows) a at code q item rest x e s = absurd a
  row_read (read ∷ reads) [] a at code q item rest x e s = absurd a
  row_read (read ∷ reads) (row ∷ rows) a at code q item rest x e (inl s) =
      taken (nat_eq code read.0) (read.1 q) _ (eq-eqb code read.0 (s.0 ∙ sym a.0)) ∙ a.3.only q item rest x e s.1
  row_read (read ∷ reads) (row ∷ rows) a at code q item rest x e (inr s) =
      left_out (nat_eq code read.0) (read.1 q) _ (not_here read row reads rows a.0 a.4 a.2 code (spelled_code rows code item x s))
      ∙ row_read reads rows a.4 at code q item rest x e s

  chain_only : (reads : Chain A) (rows : Rows A) → AgreeRows table reads rows → (at code : ℕ) (q : Place) (item rest : List ℕ) (x : A) → q.left ≡ item ++ rest → Behind table rows code item x → chained table reads at code q ≡ done x (place (q.at + length item) rest)
  chain_only reads rows a at code q item rest x e (inl t) =
      table_read reads rows a at code q x t.0
      ∙ read_alike x x q.at (q.at + length item) q.left rest refl (omega (arith, ap length t.1)) (e ∙ ap (λ (xs : List ℕ). xs ++ rest) t.1)
  chain_only reads rows a at code q item rest x e (inr s) = row_read reads rows a at code q item rest x e s

  row_failed : (reads : Chain A) (rows : Rows A) → AgreeRows table reads rows → (at code : ℕ) (q : Place) (f : BinaryFault) → RowFails rows code q.at q.left f → chained table reads at code q ≡ Err f
  row_failed [] [] a at code q f h = absurd h
  row_failed [] (row ∷ rows) a at code q f h = absurd a
  row_failed (read ∷ reads) [] a at code q f h = absurd a
  row_failed (read ∷ reads) (row ∷ rows) a at code q f (inl h) =
      taken (nat_eq code read.0) (read.1 q) _ (eq-eqb code read.0 (h.0 ∙ sym a.0)) ∙ a.3.first q f h.1
  row_failed (read ∷ reads) (row ∷ rows) a at code q f (inr h) =
      left_out (nat_eq code read.0) (read.1 q) _ (not_here read row reads rows a.0 a.4 a.2 code (failed_code rows code q.at q.left f h))
      ∙ row_failed reads rows a.4 at code q f h

  unsupported : (reads : Chain A) (rows : Rows A) → AgreeRows table reads rows → (at code : ℕ) (q : Place) → table code ≡ None → HasNoRow rows code → chained table reads at code q ≡ Err (Unsupported at code)
  unsupported [] [] a at code q t n = ap (λ (o : Option A). some_or (Unsupported at code) o q) t
  unsupported [] (row ∷ rows) a at code q t n = absurd a
  unsupported (read ∷ reads) [] a at code q t n = absurd a
  unsupported (read ∷ reads) (row ∷ rows) a at code q t n =
      left_out (nat_eq code read.0) (read.1 q) _ (ne_eqb code read.0 (λ same. n.0 (same ∙ a.0))) ∙ unsupported reads rows a.4 at code q t n.1

  chain_first : (reads : Chain A) (rows : Rows A) → AgreeRows table reads rows → (at code : ℕ) (q : Place) (f : BinaryFault) → Astray table rows at code q f → chained table reads at code q ≡ Err f
  chain_first reads rows a at code q f (inl h) = row_failed reads rows a at code q f h
  chain_first reads rows a at code q f (inr h) =
      unsupported reads rows a at code q h.0 h.1 ∙ ap (λ (g : BinaryFault). Err g) (sym h.2)

  abbrev pub coded : Read ℕ → Chain A → Read A
  coded C reads p = reading.then (C p) (λ code q. chained table reads p.at code q)

  pub agree_by_code : (C : Read ℕ) (F : Format ℕ) (reads : Chain A) (rows : Rows A) → Agree C F → AgreeRows table reads rows → Agree (coded C reads) (by_code F table rows)
  agree_by_code C F reads rows c a = record {
    found = λ p x after e.
        let h = then_ok (C p) (λ code q. chained table reads p.at code q) x after e in
        let m = c.found p h.0 h.1 h.2 in
        let n = chain_found reads rows a p.at h.0 h.1 x after h.3 in
        (m.0 ++ n.0, record { value = h.0; front = m.0; rest = n.0; split = refl; spelled = m.1; holds = n.1 }, both_lie p h.1 after m.0 n.0 m.2 n.2);
    only = λ p item rest x e s.
        let behind : List ℕ = s.rest ++ rest in
        let split : p.left ≡ s.front ++ behind = e ∙ ap (λ (xs : List ℕ). xs ++ rest) s.split ∙ append_assoc s.front s.rest rest in
        let here : Place = place (p.at + length s.front) behind in
        ap (λ (o : Result (ℕ × Place) BinaryFault). reading.then o (λ code q. chained table reads p.at code q)) (c.only p s.front behind s.value split s.spelled)
        ∙ chain_only reads rows a p.at s.value here s.rest rest x refl s.holds
        ∙ read_alike x x ((p.at + length s.front) + length s.rest) (p.at + length item) rest rest refl (omega (arith, ap length s.split, length-append s.front s.rest)) refl;
    fault = λ p f e. elim (then_err (C p) (λ code q. chained table reads p.at code q) f e) [
      | inl h ↦ elim (c.fault p f h) [ inl m ↦ inl m | inr m ↦ inr (inl m) ]
      | inr h ↦
          let m = c.found p h.0 h.1 h.2 in
          elim (chain_fault reads rows a p.at h.0 h.1 f h.3) [
            | inl k ↦ inl k
            | inr k ↦ inr (inr (record {
              value = h.0;
              front = m.0;
              rest = h.1.left;
              split = m.2.left;
              spelled = m.1;
              holds = subst (λ (at : ℕ). RowFails rows h.0 at h.1.left f ⊎ ((table h.0 ≡ None) × HasNoRow rows h.0 × (f ≡ Unsupported p.at h.0))) m.2.at k;
            }))
          ]
    ];
    first = λ p f h. elim h [
      | inl k ↦ ap (λ (o : Result (ℕ × Place) BinaryFault). reading.then o (λ code q. chained table reads p.at code q)) (c.first p f k)
      | inr k ↦
          ap (λ (o : Result (ℕ × Place) BinaryFault). reading.then o (λ code q. chained table reads p.at code q)) (c.only p k.front k.rest k.value k.split k.spelled)
          ∙ chain_first reads rows a p.at k.value (place (p.at + length k.front) k.rest) f k.holds
    ];
  }

-- ---- what is read by a chain, and another reading by cases of the same codes

then_after : {A B : Type 0} (r s : Result (A × Place) BinaryFault) (next : A → Read B) → r ≡ s → reading.then r next ≡ reading.then s next
then_after {A = A} r s next e = ap (λ (o : Result (A × Place) BinaryFault). reading.then o next) e

-- a code that does not stand in a chain is not that of a row
pub apart : {A : Type 0} (reads : Chain A) (code k : ℕ) → stands_in reads code ≡ false → stands_in reads k ≡ true → nat_eq code k ≡ false
apart reads code k h s = ne_eqb code k (λ same. differ (sym h ∙ ap (stands_in reads) same ∙ s))
  where
    differ : false ≡ true → ⊥
    differ e = cc e

module _ {A B : Type 0} (table : ℕ → Option A) (next : A → Read B) (at : ℕ) (G : ℕ → Read B) where
  abbrev pub EachRow : Chain A → Type 0
  EachRow [] = Unit {0}
  EachRow (row ∷ rows) = ((q : Place) → reading.then (row.1 q) next ≡ G row.0 q) × EachRow rows

  pub each_of_both : (xs ys : Chain A) → EachRow xs → EachRow ys → EachRow (xs ++ ys)
  each_of_both [] ys e f = f
  each_of_both (x ∷ xs) ys e f = (e.0, each_of_both xs ys e.1 f)

  row_then : (row : ℕ × Read A) (rows : Chain A) (code : ℕ) (q : Place) → ((r : Place) → reading.then (row.1 r) next ≡ G row.0 r) → ((stands_in rows code ≡ false → reading.then (some_or (Unsupported at code) (table code) q) next ≡ G code q) → reading.then (chained table rows at code q) next ≡ G code q) → (b : Bool) → nat_eq code row.0 ≡ b → (stands_in (row ∷ rows) code ≡ false → reading.then (some_or (Unsupported at code) (table code) q) next ≡ G code q) → reading.then (chained table (row ∷ rows) at code q) next ≡ G code q
  row_then row rows code q e rest true k h =
      then_after (chained table (row ∷ rows) at code q) (row.1 q) next (taken (nat_eq code row.0) (row.1 q) _ k)
      ∙ e q ∙ ap (λ (c : ℕ). G c q) (sym (eqb-true code row.0 k))
  row_then row rows code q e rest false k h =
      then_after (chained table (row ∷ rows) at code q) (chained table rows at code q) next (left_out (nat_eq code row.0) (row.1 q) _ k)
      ∙ rest (λ s. h (left_out (nat_eq row.0 code) true _ (ne_eqb row.0 code (λ same. eqb-false code row.0 k (sym same))) ∙ s))

  pub chained_then : (reads : Chain A) → EachRow reads → (code : ℕ) (q : Place) → (stands_in reads code ≡ false → reading.then (some_or (Unsupported at code) (table code) q) next ≡ G code q) → reading.then (chained table reads at code q) next ≡ G code q
  chained_then [] e code q h = h refl
  chained_then (row ∷ rows) e code q h = row_then row rows code q e.0 (chained_then rows e.1 code q) (nat_eq code row.0) refl h
