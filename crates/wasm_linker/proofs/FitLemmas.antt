-- The objects for imports, looked at where they are, fit exactly as a list of them does.
use Rattle.std.proofs.Common.{◌≡◌, ℕ, suc, Bool, true, false, ◌&&◌, if◌then◌else◌, eq-eqb, List, [], ◌∷◌, length, Option, Some, None, option_map, refl, sym, ap, ◌∙◌, subst, Result, Err}
use Rattle.std.specs.Prelude.{option_and_then, nat_eq, ⊤}
use Rattle.std.specs.List.{list_all}
use Rattle.wasm_syntax.specs.declared.declarations.ImportDecl.{ImportDecl}
use Rattle.wasm_syntax.specs.declared.declarations.ModuleDecl.{ModuleDecl}
use Rattle.wasm_values.specs.declared.externals.Extern.{Extern}
use Rattle.wasm_values.specs.declared.refusals.Refusal.{Refusal}
use Rattle.wasm_values.specs.declared.refusals.Refusal.TheVariants.{WrongStore, WrongEngine, ImportCount, ImportType}
use Rattle.spec_execution.specs.Instantiation.{is_given, first_unmatched_import, no_unmatched_import, imports_fit}
use Rattle.spec_machine.specs.Machine.{Machine}
use Rattle.spec_machine.specs.Steps.{◌>>=◌, unless}
use Rattle.spec_machine.specs.Values.{owns_extern}
use Rattle.linker_map.specs.Faults.{told_fault}
use Rattle.linker_map.specs.Imports.{found_for, resolved}
use Rattle.linker_map.specs.Linkers.{LinkerParts}
use Rattle.linker_map.specs.declared.faults.LinkFault.TheVariants.{Refused}
use Rattle.wasm_linker.specs.InPlace.{owns_found, fits_found, owns_for, first_unfit, fit_in_place}

-- where there is an object for each import, there is one for the first, and for the others
record Found (l : LinkerParts) (import : ImportDecl) (more : List ImportDecl) (items : List Extern) : Type 0 where
  pub item : Extern
  pub others : List Extern
  pub first : found_for l import ≡ Some item
  pub behind : resolved l more ≡ Some others
  pub whole : item ∷ others ≡ items

some_same : {A : Type 0} (a b : A) → Some a ≡ Some b → a ≡ b
some_same a b e = cc

found : (l : LinkerParts) (import : ImportDecl) (more : List ImportDecl) (items : List Extern) →
    resolved l (import ∷ more) ≡ Some items → Found l import more items
found l import more items e = by (found_for l import) (resolved l more) refl refl e
  where
    by : (o : Option Extern) (r : Option (List Extern)) → found_for l import ≡ o → resolved l more ≡ r →
        option_and_then (λ x. option_map (λ xs. x ∷ xs) r) o ≡ Some items → Found l import more items
    by None r first behind e = absurd cc
    by (Some x) None first behind e = absurd cc
    by (Some x) (Some xs) first behind e = record {
      item = x;
      others = xs;
      first = first;
      behind = behind;
      whole = some_same (x ∷ xs) items e;
    }

module _ (m : Machine) (l : LinkerParts) where
  owned_same : (imports : List ImportDecl) (items : List Extern) → resolved l imports ≡ Some items →
      list_all (owns_for m l) imports ≡ list_all (owns_extern m) items
  owned_same [] items e = ap (list_all (owns_extern m)) (some_same [] items e)
  owned_same (import ∷ more) items e =
      let f = found l import more items e in
      ap (λ o. owns_found m o && list_all (owns_for m l) more) f.first
      ∙ ap (λ b. owns_extern m f.item && b) (owned_same more f.others f.behind)
      ∙ ap (list_all (owns_extern m)) f.whole

  first_same : (n : ℕ) (imports : List ImportDecl) (items : List Extern) → resolved l imports ≡ Some items →
      first_unfit m l n imports ≡ first_unmatched_import m n imports items
  first_same n [] items e = refl
  first_same n (import ∷ more) items e =
      let f = found l import more items e in
      ap (λ o. if fits_found m import.ty o then first_unfit m l (suc n) more else Some n) f.first
      ∙ ap (λ o. if is_given m import.ty f.item then o else Some n) (first_same (suc n) more f.others f.behind)
      ∙ ap (first_unmatched_import m n (import ∷ more)) f.whole

  count_same : (imports : List ImportDecl) (items : List Extern) → resolved l imports ≡ Some items →
      length items ≡ length imports
  count_same [] items e = sym (ap length (some_same [] items e))
  count_same (import ∷ more) items e =
      let f = found l import more items e in
      sym (ap length f.whole) ∙ ap suc (count_same more f.others f.behind)

-- the checks, by what each test says
abbrev by_tests : (own engine counted : Bool) → Option ℕ → Result ⊤ Refusal
by_tests own engine counted first =
    unless WrongStore own
    >>= (λ _. unless WrongEngine engine >>= (λ _. unless ImportCount counted >>= (λ _. no_unmatched_import first)))

module _ (m : Machine) (d : ModuleDecl) where
  pub fit_same : (l : LinkerParts) (items : List Extern) → resolved l d.imports ≡ Some items →
      fit_in_place m d l ≡ imports_fit m d items
  fit_same l items e =
      let engine : Bool = nat_eq d.engine.0 m.engine.number in
      let counted : nat_eq (length items) (length d.imports) ≡ true =
      eq-eqb (length items) (length d.imports) (count_same m l d.imports items e) in
      ap (λ own. by_tests own engine true (first_unfit m l 0 d.imports)) (owned_same m l d.imports items e)
      ∙ ap (by_tests (list_all (owns_extern m) items) engine true) (first_same m l 0 d.imports items e)
      ∙ ap (λ n. by_tests (list_all (owns_extern m) items) engine n (first_unmatched_import m 0 d.imports items))
      (sym counted)

-- ---- what holds of each refusal by these checks

err_same : (a b : Refusal) → ◌≡◌ {A = Result ⊤ Refusal} (Err a) (Err b) → a ≡ b
err_same a b e = cc

-- so it is of each that may be
pub record OfChecks (Says : Refusal → Type 0) : Type 0 where
  pub store : Says WrongStore
  pub engine : Says WrongEngine
  pub count : Says ImportCount
  pub type : (n : ℕ) → Says (ImportType n)

module _ (Says : Refusal → Type 0) (each : OfChecks Says) where
  tests_say : (own engine counted : Bool) (first : Option ℕ) (why : Refusal) →
      by_tests own engine counted first ≡ Err why → Says why
  tests_say false engine counted first why e = subst Says (err_same WrongStore why e) each.store
  tests_say true false counted first why e = subst Says (err_same WrongEngine why e) each.engine
  tests_say true true false first why e = subst Says (err_same ImportCount why e) each.count
  tests_say true true true None why e = absurd cc
  tests_say true true true (Some n) why e = subst Says (err_same (ImportType n) why e) (each.type n)

  pub checks_say : (m : Machine) (d : ModuleDecl) (items : List Extern) (why : Refusal) →
      imports_fit m d items ≡ Err why → Says why
  checks_say m d items why e =
      tests_say (list_all (owns_extern m) items) (nat_eq d.engine.0 m.engine.number)
      (nat_eq (length items) (length d.imports)) (first_unmatched_import m 0 d.imports items) why e

  pub placed_say : (m : Machine) (d : ModuleDecl) (l : LinkerParts) (why : Refusal) → fit_in_place m d l ≡ Err why →
      Says why
  placed_say m d l why e =
      tests_say (list_all (owns_for m l) d.imports) (nat_eq d.engine.0 m.engine.number) true
      (first_unfit m l 0 d.imports) why e

-- a refusal by the checks is told as such
pub told_plain : (m : Machine) (d : ModuleDecl) (items : List Extern) (why : Refusal) →
    imports_fit m d items ≡ Err why → Refused why ≡ told_fault why
told_plain m d items why fits =
    checks_say (λ w. Refused w ≡ told_fault w) (record { store = refl; engine = refl; count = refl; type = λ n. refl })
    m d items why fits
