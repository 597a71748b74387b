-- The map of exports against the list of exports.
use Rattle.std.proofs.lemmas.List.{take_more, get_or_at, map-append}
use Rattle.std.proofs.Common.{◌≡◌, ◌<◌, ◌+◌, add-one, append-nil, append_assoc, length-take-le, get_or, if◌then◌else◌, ℕ, suc, Bool, true, false, not, cond, ◌||◌, List, [], ◌∷◌, ◌++◌, length, map, take, Option, Some, None, refl, ap, sym, ◌∙◌, arith, option_map, is_none, is_some}
use Rattle.std.specs.Prelude.{find, String, string_bytes}
use Rattle.std.specs.List.{list_any}
use Rattle.std.specs.Map.{update, lookup}
use Rattle.std.specs.BTreeMap.{BTreeMap, is_at, get_by_text}
use Rattle.std.specs.Cmp.Lexicographic.{slice_cmp}
use Rattle.std.specs.Ordering.{is_eq, nat_cmp}
use Rattle.std.proofs.lemmas.Map.Text.{is_eq-slice_cmp}
use Rattle.std.specs.Str.{bytes_eq}
use Rattle.std.proofs.lemmas.Bool.Decides.{same_from_decides, Decides-like}
use Rattle.std.proofs.lemmas.Slice.Eq.{bytes_eq-Decides}
use Rattle.wasm_syntax.proofs.FirstBrokenLemmas.{broken_export_name}
use Rattle.wasm_syntax.specs.FirstBroken.{broken, first_from, first_there, place}
use Rattle.wasm_syntax.specs.declared.module_fault.Part.TheVariants as part
use Rattle.wasm_syntax.specs.declared.module_fault.Rule.TheVariants as rule
use Rattle.wasm_syntax.specs.declared.declarations.ModuleDecl.{ModuleDecl}
use Rattle.wasm_syntax.specs.declared.declarations.ExportDecl.{ExportDecl}
use Rattle.wasm_syntax.specs.declared.entities.EntityIndex.{EntityIndex}
use Rattle.wasm_module.specs.Exports.{Entry, entries, entity_named, named_before}

bytes_eq_comm : (xs ys : List ℕ) → bytes_eq xs ys ≡ bytes_eq ys xs
bytes_eq_comm xs ys = same_from_decides _ _ (bytes_eq-Decides xs ys) (Decides-like (bytes_eq ys xs) sym sym (bytes_eq-Decides ys xs))

pub none_is : {A : Type 0} (o : Option A) (t : Bool) → is_some o ≡ not t → t ≡ is_none o
none_is None true e = refl
none_is None false e = absurd cc
none_is (Some a) true e = absurd cc
none_is (Some a) false e = refl

-- what each name names
abbrev pub Names : Type 0
Names = List ℕ → Option EntityIndex

module _ {Z : Type 0} where
  abbrev pub named : String Z × EntityIndex → Entry
  named p = (string_bytes p.0, p.1)

  -- a look-up in a map in the order of texts
  names_are : (es : List (String Z × EntityIndex)) (q : List ℕ) →
      entity_named (map named es) q ≡ lookup (is_at (λ k. slice_cmp nat_cmp q (string_bytes k))) es
  names_are [] q = refl
  names_are (e ∷ es) q =
      by_case (bytes_eq (string_bytes e.0) q) (is_eq (slice_cmp nat_cmp q (string_bytes e.0)))
      (bytes_eq_comm (string_bytes e.0) q ∙ sym (is_eq-slice_cmp q (string_bytes e.0))) (names_are es q)
    where
      by_case : (t u : Bool) → t ≡ u →
          entity_named (map named es) q ≡ lookup (is_at (λ k. slice_cmp nat_cmp q (string_bytes k))) es →
          option_map (λ (x : Entry). x.1) (cond t (Some (named e)) (find (λ (x : Entry). bytes_eq x.0 q) (map named es)))
          ≡ cond u (Some e.1) (lookup (is_at (λ k. slice_cmp nat_cmp q (string_bytes k))) es)
      by_case true true p h = refl
      by_case false false p h = h
      by_case true false p h = absurd cc
      by_case false true p h = absurd cc

  pub names_of : (m : BTreeMap (String Z) EntityIndex) → entity_named (map named m.entries) ≡ get_by_text m
  names_of m = λ i q. names_are m.entries q i

-- one more pair behind the others
module _ (name : List ℕ) (v : EntityIndex) where
  -- a name that is new
  pub named_more : (es : List Entry) (q : List ℕ) → is_none (entity_named es name) ≡ true →
      entity_named (es ++ (name, v) ∷ []) q ≡ update bytes_eq (entity_named es) name (Some v) q
  named_more [] q new = cond_map (bytes_eq name q)
    where
      cond_map : (t : Bool) → option_map (λ (x : Entry). x.1) (cond t (Some (name, v)) None) ≡ cond t (Some v) None
      cond_map true = refl
      cond_map false = refl
  named_more (e ∷ es) q new = by_case (bytes_eq e.0 name) refl new (named_more es q)
    where
      unlike : bytes_eq e.0 name ≡ false → bytes_eq e.0 q ≡ true → bytes_eq name q ≡ false
      unlike n t = ap (bytes_eq name) (sym ((bytes_eq-Decides e.0 q).0 t)) ∙ bytes_eq_comm name e.0 ∙ n

      at_query : (t : Bool) → bytes_eq e.0 q ≡ t → bytes_eq e.0 name ≡ false →
          entity_named (es ++ (name, v) ∷ []) q ≡ update bytes_eq (entity_named es) name (Some v) q →
          option_map (λ (x : Entry). x.1) (cond t (Some e) (find (λ (x : Entry). bytes_eq x.0 q) (es ++ (name, v) ∷ [])))
          ≡ cond (bytes_eq name q) (Some v) (option_map (λ (x : Entry). x.1) (cond t (Some e) (find (λ (x : Entry). bytes_eq x.0 q) es)))
      at_query true is n more = sym (ap (λ (t : Bool). cond t (Some v) (Some e.1)) (unlike n is))
      at_query false is n more = more

      by_case : (t : Bool) → bytes_eq e.0 name ≡ t →
          is_none (option_map (λ (x : Entry). x.1) (cond t (Some e) (find (λ (x : Entry). bytes_eq x.0 name) es))) ≡ true →
          (is_none (entity_named es name) ≡ true → entity_named (es ++ (name, v) ∷ []) q ≡ update bytes_eq (entity_named es) name (Some v) q) →
          entity_named (e ∷ (es ++ (name, v) ∷ [])) q ≡ update bytes_eq (entity_named (e ∷ es)) name (Some v) q
      by_case true is new more = absurd cc
      by_case false is new more = at_query (bytes_eq e.0 q) refl is (more new)

-- whether an earlier export has the name
before_is : (front : List ExportDecl) (name : List ℕ) → list_any (λ (other : ExportDecl). bytes_eq other.name name) front ≡ not (is_none (entity_named (entries front) name))
before_is [] name = refl
before_is (e ∷ es) name = by_case (bytes_eq e.name name) (before_is es name)
  where
    by_case : (t : Bool) → list_any (λ (other : ExportDecl). bytes_eq other.name name) es ≡ not (is_none (entity_named (entries es) name)) →
        (t || list_any (λ (other : ExportDecl). bytes_eq other.name name) es)
        ≡ not (is_none (option_map (λ (x : Entry). x.1) (cond t (Some (e.name, e.entity)) (find (λ (x : Entry). bytes_eq x.0 name) (entries es)))))
    by_case true h = refl
    by_case false h = h

-- the first n items and one more
module _ {A : Type 0} (xs : List A) (x : A) (tail : List A) (n : ℕ) (whole : take n xs ++ x ∷ tail ≡ xs) (short : n < length xs) where
  at : get_or xs n x ≡ x
  at = ap (λ (ys : List A). get_or ys n x) (sym whole) ∙ get_or_at (take n xs) x tail x n (length-take-le n xs (omega (arith, short)))

  one_more : take (n + 1) xs ≡ take n xs ++ x ∷ []
  one_more = take_more xs n x short ∙ ap (λ (y : A). take n xs ++ y ∷ []) at

  front_more : take (n + 1) xs ++ tail ≡ xs
  front_more = ap (λ (ys : List A). ys ++ tail) one_more ∙ append_assoc (take n xs) (x ∷ []) tail ∙ whole

-- the first n exports have names of their own, and stand in the map
pub record AreDistinct (exports rest : List ExportDecl) (n : ℕ) (held : List Entry) : Type 0 where
  pub front : take n exports ++ rest ≡ exports
  pub count : n + length rest ≡ length exports
  pub holds : entity_named held ≡ entity_named (entries (take n exports))
  pub first : first_from (named_before exports) n rest ≡ first_from (named_before exports) 0 exports

module _ (exports rest : List ExportDecl) (n : ℕ) (held : List Entry) (are : AreDistinct exports rest n held) (export : ExportDecl) (tail : List ExportDecl) (split : rest ≡ export ∷ tail) (b : Bool) (is_new : b ≡ is_none (entity_named held export.name)) where
  new_in_front : b ≡ is_none (entity_named (entries (take n exports)) export.name)
  new_in_front = is_new ∙ ap (λ (names : Names). is_none (names export.name)) are.holds

  tested : named_before exports n export ≡ not b
  tested = before_is (take n exports) export.name ∙ ap not (sym new_in_front)

  at_rest : first_from (named_before exports) n (export ∷ tail) ≡ first_from (named_before exports) 0 exports
  at_rest = ap (first_from (named_before exports) n) (sym split) ∙ are.first

  here : b ≡ false → named_before exports n export ≡ true
  here e = tested ∙ ap not e

  pub twice : b ≡ false → first_from (named_before exports) 0 exports ≡ Some n
  twice e = sym at_rest ∙ ap (λ (t : Bool). if t then Some n else first_from (named_before exports) (suc n) tail) (here e)

  pub once : b ≡ true → (new : List Entry) → entity_named new ≡ update bytes_eq (entity_named held) export.name (Some export.entity) → AreDistinct exports tail (n + 1) new
  once e new added =
      let length_is : length rest ≡ suc (length tail) = ap length split in
      let short : n < length exports = omega (arith, are.count, length_is) in
      let whole : take n exports ++ export ∷ tail ≡ exports = ap (λ (ys : List ExportDecl). take n exports ++ ys) (sym split) ∙ are.front in
      record {
        front = front_more exports export tail n whole short;
        count = omega (arith, are.count, length_is);
        holds = added ∙ ap (λ (names : Names). update bytes_eq names export.name (Some export.entity)) are.holds
            ∙ (λ i q. sym (named_more export.name export.entity (entries (take n exports)) q (sym new_in_front ∙ e)) i)
            ∙ ap entity_named (sym (map-append (λ (x : ExportDecl). (x.name, x.entity)) (take n exports) (export ∷ []))
            ∙ ap entries (sym (one_more exports export tail n whole short)));
        first = ap (λ (k : ℕ). first_from (named_before exports) k tail) (add-one n)
            ∙ sym (ap (λ (t : Bool). if t then Some n else first_from (named_before exports) (suc n) tail) (tested ∙ ap not e))
            ∙ at_rest;
      }

pub at_start : (exports : List ExportDecl) → AreDistinct exports exports 0 []
at_start exports = record { front = refl; count = omega arith; holds = refl; first = refl }

pub all_distinct : (exports rest : List ExportDecl) (n : ℕ) (held : List Entry) → AreDistinct exports rest n held → length rest ≡ 0 → (entity_named held ≡ entity_named (entries exports)) × (first_from (named_before exports) 0 exports ≡ None)
all_distinct exports (x ∷ rest) n held are none = absurd cc
all_distinct exports [] n held are none = (are.holds ∙ ap (λ (xs : List ExportDecl). entity_named (entries xs)) (sym (append-nil (take n exports)) ∙ are.front), sym are.first)

-- where the rule on names is broken first
pub names_kept : (d : ModuleDecl) → first_from (named_before d.exports) 0 d.exports ≡ None → broken rule.ExportName d ≡ None
names_kept d e = broken_export_name d ∙ ap (λ (o : Option ℕ). first_there (option_map (place part.Exports) o ∷ [])) e

pub names_broken : (d : ModuleDecl) (n : ℕ) → first_from (named_before d.exports) 0 d.exports ≡ Some n → broken rule.ExportName d ≡ Some (place part.Exports n)
names_broken d n e = broken_export_name d ∙ ap (λ (o : Option ℕ). first_there (option_map (place part.Exports) o ∷ [])) e
