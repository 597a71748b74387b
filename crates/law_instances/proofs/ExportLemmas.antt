-- Look-ups of an export agree, and what is listed is what is found.
use Rattle.std.proofs.Common.{◌≡◌, ℕ, zero, suc, ◌<◌, Bool, true, false, ◌||◌, List, [], ◌∷◌, take, slice_get, Option, Some, None, option_and_then, Result, Ok, Err, ok_or, if◌then◌else◌, refl, sym, ap, ◌∙◌, subst, inl, inr, arith}
use Rattle.std.proofs.lemmas.Bool.{cases_lt, false≢true}
use Rattle.std.proofs.lemmas.Option.{same_Some, none-some}
use Rattle.std.proofs.lemmas.Slice.Eq.{bytes_eq-Decides}
use Rattle.std.specs.List.{list_any}
use Rattle.std.specs.Str.{bytes_eq}
use Rattle.wasm_syntax.specs.declared.declarations.ExportDecl.{ExportDecl}
use Rattle.wasm_syntax.specs.declared.module_fault.Rule.TheVariants as rule
use Rattle.wasm_values.specs.Handles.{instance_store, instance_index}
use Rattle.wasm_values.specs.declared.externals.Extern.{Extern}
use Rattle.wasm_values.specs.declared.handles.Instance.{Instance}
use Rattle.wasm_values.specs.declared.refusals.Refusal.{Refusal}
use Rattle.wasm_values.specs.declared.refusals.Refusal.TheVariants.{WrongStore, NoExport}
use Rattle.spec_machine.specs.InstanceCalls.{instance_at, object, export_named, exported_object}
use Rattle.spec_machine.specs.Machine.{Machine, InstanceParts}
use Rattle.spec_machine.specs.Steps.{◌>>=◌}
use Rattle.spec_machine.specs.Values.{is_id}
use Rattle.spec_machine.specs.WellFormed.{IsInstance, IsWellFormed}
use Rattle.law_store.proofs.RefusalLemmas.{given_is}
use Rattle.law_code.proofs.IndexLemmas.{Mapped, map-at}
use Rattle.wasm_instance.specs.Exports.{Entry, entries, export_of}
use Rattle.law_instances.specs.ExportLaws.{LookUpsAgree, LookUpsOfKindAgree, EntriesAreFound, NamesDiffer}

-- ---- what a look-up gives, by the instance and the object that is exported

module _ (x : InstanceParts → Option Extern) where
  found_of : (r : Result InstanceParts Refusal) (o : Extern) → (r >>= (λ i. Ok (x i))) ≡ Ok (Some o) →
      (r >>= (λ i. ok_or (x i) NoExport)) ≡ Ok o
  found_of (Ok i) o e = ap (λ y. ok_or y NoExport) (given_is (x i) (Some o) e)
  found_of (Err why) o e = absurd cc

  some_given : (y : Option Extern) (o : Extern) → ok_or y NoExport ≡ Ok o → y ≡ Some o
  some_given None o e = absurd cc
  some_given (Some p) o e = ap Some (given_is p o e)

  told_of : (r : Result InstanceParts Refusal) (o : Extern) → (r >>= (λ i. ok_or (x i) NoExport)) ≡ Ok o →
      (r >>= (λ i. Ok (x i))) ≡ Ok (Some o)
  told_of (Ok i) o e = ap Ok (some_given (x i) o e)
  told_of (Err why) o e = absurd cc

  module _ {A : Type 0} (as_kind : Extern → Option A) where
    -- an object of the kind
    record OfKind (r : Result InstanceParts Refusal) (a : A) : Type 0 where
      whole : Extern
      told : (r >>= (λ i. Ok (x i))) ≡ Ok (Some whole)
      is : as_kind whole ≡ Some a

    of_kind_in : (i : InstanceParts) (y : Option Extern) (a : A) → x i ≡ y → option_and_then as_kind y ≡ Some a →
        OfKind (Ok i) a
    of_kind_in i None a p e = absurd (none-some a e)
    of_kind_in i (Some o) a p e = record { whole = o; told = ap Ok p; is = e }

    of_kind : (r : Result InstanceParts Refusal) (a : A) → (r >>= (λ i. Ok (option_and_then as_kind (x i)))) ≡ Ok (Some a) →
        OfKind r a
    of_kind (Ok i) a e = of_kind_in i (x i) a refl (given_is _ (Some a) e)
    of_kind (Err why) a e = absurd cc

    kind_told : (r : Result InstanceParts Refusal) (o : Extern) → (r >>= (λ i. Ok (x i))) ≡ Ok (Some o) →
        (r >>= (λ i. Ok (option_and_then as_kind (x i)))) ≡ Ok (as_kind o)
    kind_told (Ok i) o e = ap (λ y. Ok (option_and_then as_kind y)) (given_is (x i) (Some o) e)
    kind_told (Err why) o e = absurd cc

pub look_ups_agree : LookUpsAgree
look_ups_agree m after h name o k e =
    told_of (λ i. exported_object after i name) (instance_at after h) o
    (k.exports h name o (found_of (λ i. exported_object m i name) (instance_at m h) o e))

pub look_ups_of_kind_agree : {A : Type 0} (as_kind : Extern → Option A) → LookUpsOfKindAgree as_kind
look_ups_of_kind_agree {A} as_kind m after h name a k e =
    let f : OfKind (λ i. exported_object m i name) as_kind (instance_at m h) a =
    of_kind (λ i. exported_object m i name) as_kind (instance_at m h) a e in
    kind_told (λ i. exported_object after i name) as_kind (instance_at after h) f.whole
    (look_ups_agree m after h name f.whole k f.told)
    ∙ ap Ok f.is

-- ---- lists in which no earlier export has the same name

neither : (a b : Bool) → (a || b) ≡ false → (a ≡ false) × (b ≡ false)
neither true b e = absurd cc
neither false b e = (refl, e)

second : (a b : Bool) → b ≡ true → (a || b) ≡ true
second true b e = refl
second false b e = e

module _ (name : List ℕ) where
  abbrev has_name : ExportDecl → Bool
  has_name e = bytes_eq e.name name

  abbrev chosen : Bool → ExportDecl → List ExportDecl → Option ExportDecl
  chosen b x es = if b then Some x else export_named name es

  found_first : (es : List ExportDecl) (k : ℕ) (e : ExportDecl) → slice_get es k ≡ Some e →
      list_any has_name (take k es) ≡ false → has_name e ≡ true → export_named name es ≡ Some e
  found_first [] k e p q r = absurd (none-some e p)
  found_first (x ∷ es) zero e p q r =
      ap (λ b. chosen b x es) (ap has_name (same_Some x e p) ∙ r) ∙ p
  found_first (x ∷ es) (suc k) e p q r =
      let none : (has_name x ≡ false) × (list_any has_name (take k es) ≡ false) =
      neither (has_name x) (list_any has_name (take k es)) q in
      ap (λ b. chosen b x es) none.0 ∙ found_first es k e p none.1 r

  sooner : (es : List ExportDecl) (j k : ℕ) (d : ExportDecl) → j < k → slice_get es j ≡ Some d → has_name d ≡ true →
      list_any has_name (take k es) ≡ true
  sooner [] j k d l p r = absurd (none-some d p)
  sooner (x ∷ es) j zero d l p r = absurd (omega (arith, l))
  sooner (x ∷ es) zero (suc k) d l p r =
      ap (λ b. b || list_any has_name (take k es)) (ap has_name (same_Some x d p) ∙ r)
  sooner (x ∷ es) (suc j) (suc k) d l p r =
      second (has_name x) (list_any has_name (take k es)) (sooner es j k d (omega (arith, l)) p r)

-- ---- an instance of a well-formed store

there_by : (own : Bool) (o : Option InstanceParts) (i : InstanceParts) →
    ◌≡◌ {A = Result InstanceParts Refusal} (if own then ok_or o WrongStore else Err WrongStore) (Ok i) → o ≡ Some i
there_by true None i e = absurd cc
there_by true (Some j) i e = ap Some (given_is j i e)
there_by false o i e = absurd cc

module _ (m : Machine) (h : Instance) (i : InstanceParts) (s : IsWellFormed m) (here : instance_at m h ≡ Ok i) where
  abbrev exports : List ExportDecl
  exports = i.decl.exports

  is : IsInstance m (instance_index h) i
  is = s.instances_are (instance_index h) i
      (there_by (is_id (instance_store h) m.id) (slice_get m.instances (instance_index h)) i here)

  -- no earlier export has the name of one
  fresh : (k : ℕ) (e : ExportDecl) → slice_get exports k ≡ Some e →
      list_any (λ (other : ExportDecl). bytes_eq other.name e.name) (take k exports) ≡ false
  fresh k e p = let module_is : _ = is.module_is in (module_is.valid rule.ExportName).in_exports k e p

  abbrev entry_of : ExportDecl → Entry
  entry_of e = (e.name, object m i e.entity)

  entry_found : (k : ℕ) (e : ExportDecl) → slice_get exports k ≡ Some e →
      export_of m h e.name ≡ Ok (object m i e.entity)
  entry_found k e p =
      ap (λ (r : Result InstanceParts Refusal). r >>= (λ j. Ok (exported_object m j e.name))) here
      ∙ ap (λ o. Ok (option_and_then (λ (d : ExportDecl). object m i d.entity) o))
      (found_first e.name exports k e p (fresh k e p) ((bytes_eq-Decides e.name e.name).1 refl))

  pub found_at : (k : ℕ) (e : Entry) → slice_get (entries m i) k ≡ Some e → export_of m h e.0 ≡ Ok e.1
  found_at k e p =
      let q : Mapped entry_of exports k e = map-at entry_of exports k e p in
      subst (λ (d : Entry). export_of m h d.0 ≡ Ok d.1) q.is (entry_found k q.item q.found)

  never_sooner : (j k : ℕ) (d e : ExportDecl) → slice_get exports j ≡ Some d → slice_get exports k ≡ Some e →
      d.name ≡ e.name → j < k → ⊥
  never_sooner j k d e p q same l =
      false≢true (sym (fresh k e q) ∙ sooner e.name exports j k d l p ((bytes_eq-Decides d.name e.name).1 same))

  same_place : (j k : ℕ) (d e : ExportDecl) → slice_get exports j ≡ Some d → slice_get exports k ≡ Some e →
      d.name ≡ e.name → j ≡ k
  same_place j k d e p q same =
      elim (cases_lt j k) [
        | inl l ↦ absurd (never_sooner j k d e p q same l)
        | inr l ↦ elim (cases_lt k j) [
          | inl r ↦ absurd (never_sooner k j e d q p (sym same) r)
          | inr r ↦ omega (arith, l, r)
        ]
      ]

  pub place_by_name : (j k : ℕ) (d e : Entry) → slice_get (entries m i) j ≡ Some d → slice_get (entries m i) k ≡ Some e →
      d.0 ≡ e.0 → j ≡ k
  place_by_name j k d e p q same =
      let a : Mapped entry_of exports j d = map-at entry_of exports j d p in
      let b : Mapped entry_of exports k e = map-at entry_of exports k e q in
      same_place j k a.item b.item a.found b.found
      (ap (λ (t : Entry). t.0) a.is ∙ same ∙ sym (ap (λ (t : Entry). t.0) b.is))

pub entries_are_found : EntriesAreFound
entries_are_found m h i k e s here p = found_at m h i s here k e p

pub names_differ : NamesDiffer
names_differ m h i j k d e s here p q same = place_by_name m h i s here j k d e p q same
