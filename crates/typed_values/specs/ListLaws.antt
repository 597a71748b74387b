-- Laws of the ways back from lists: each follows from those of the members.
use Rattle.std.specs.Prelude.{ℕ, ◌≡◌, refl, Bool, true, false, not, ◌&&◌, ◌||◌, List, [], ◌∷◌, Option, Some, None, is_some, is_ok, IfSome, length, Result, Ok, Err, ⊤, if◌then◌else◌}
use Rattle.std.specs.Option.{option_map}
use Rattle.wasm_types.specs.Matching.{heap_matches, ref_matches, val_matches, is_concrete}
use Rattle.wasm_types.specs.FunctionParts.{is_nullable, heap_type}
use Rattle.spec_machine.specs.Machine.{Machine}
use Rattle.spec_machine.specs.Values.{val_fits, all_fit, least_type}
use Rattle.typed_values.specs.StaticTypes.{Kind, is_of_kind, are_of_kinds, is_plain, are_plain, all_checked}
use Rattle.typed_values.specs.Lists.{Way, Ways, both, from_none, from_one, from_more, read_as}
use Rattle.wasm_types.specs.declared.value_types.HeapType.{HeapType}
use Rattle.wasm_types.specs.declared.value_types.HeapType.TheVariants as h
use Rattle.wasm_types.specs.declared.value_types.RefType.{RefType}
use Rattle.wasm_values.specs.declared.refusals.Refusal.{Refusal}
use Rattle.wasm_values.specs.declared.refusals.Refusal.TheVariants.{TypeMismatch, ResultCount}
use Rattle.typed_values.specs.declared.checks.TypeCheckPosition.TheVariants as at
use Rattle.wasm_types.specs.declared.value_types.ValType.{ValType}
use Rattle.wasm_types.specs.declared.value_types.ValType.TheVariants as t
use Rattle.wasm_values.specs.declared.values.Val.{Val}
use Rattle.std.proofs.Common.{ap, sym, ◌∙◌}
use Rattle.std.proofs.lemmas.Bool.{and_parts, and_from, false≢true}

-- there is no way back exactly where the number or a kind misfits
abbrev pub OfKind : {A : Type 0} → Way A → Kind → Type 0
OfKind f kind = (val : Val) → is_some (f val) ≡ is_of_kind kind val

abbrev pub OfKinds : {A : Type 0} → Ways A → List Kind → Type 0
OfKinds f kinds = (vals : List Val) → is_some (f vals) ≡ are_of_kinds kinds vals

-- each value that fits has a way back
abbrev pub EachFits : {A : Type 0} → Way A → ValType → Type 0
EachFits f ty = (m : Machine) (val : Val) → val_fits m val ty ≡ true → is_some (f val) ≡ true

-- values of types that are accepted for results have one
abbrev pub EachAccepted : {A : Type 0} → Ways A → List ValType → Type 0
EachAccepted f tys = (m : Machine) (vals : List Val) (actuals : List ValType) →
    all_fit m vals actuals ≡ true → all_checked tys actuals at.Result ≡ Ok tt → is_some (f vals) ≡ true

abbrev refused : Refusal → Result ⊤ Refusal
refused why = Err why

abbrev passed : Result ⊤ Refusal
passed = Ok tt

err≢ok : {why : Refusal} → refused why ≡ passed → ⊥
err≢ok p = false≢true (ap is_ok p)

both_some : {A B : Type 0} (a : Option A) (b : Option B) → is_some (both a b) ≡ (is_some a && is_some b)
both_some (Some a) (Some b) = refl
both_some (Some a) None = refl
both_some None b = refl

map_some : {A B : Type 0} (h : A → B) (o : Option A) → is_some (option_map h o) ≡ is_some o
map_some h (Some a) = refl
map_some h None = refl

and_alike : (a b c d : Bool) → a ≡ b → c ≡ d → (a && c) ≡ (b && d)
and_alike a b c d p q = ap (λ x. x && c) p ∙ ap (λ y. b && y) q

and_true : (b : Bool) → (b && true) ≡ b
and_true true = refl
and_true false = refl

and_false : (b : Bool) → (b && false) ≡ false
and_false true = refl
and_false false = refl

pub none_of_kinds : OfKinds from_none []
none_of_kinds [] = refl
none_of_kinds (val ∷ vals) = refl

pub one_of_kinds : {A : Type 0} (f : Way A) (kind : Kind) → OfKind f kind → OfKinds (from_one f) (kind ∷ [])
one_of_kinds f kind law [] = refl
one_of_kinds f kind law (val ∷ []) = law val ∙ sym (and_true (is_of_kind kind val))
one_of_kinds f kind law (val ∷ next ∷ vals) = sym (and_false (is_of_kind kind val))

pub more_of_kinds : {A B : Type 0} (f : Way A) (g : Ways B) (kind : Kind) (kinds : List Kind) → OfKind f kind → OfKinds g kinds → OfKinds (from_more f g) (kind ∷ kinds)
more_of_kinds f g kind kinds law laws [] = refl
more_of_kinds f g kind kinds law laws (val ∷ vals) =
    both_some (f val) (g vals) ∙ and_alike (is_some (f val)) (is_of_kind kind val) (is_some (g vals)) (are_of_kinds kinds vals) (law val) (laws vals)

pub read_of_kinds : {A B : Type 0} (h : A → B) (f : Ways A) (kinds : List Kind) → OfKinds f kinds → OfKinds (read_as h f) kinds
read_of_kinds h f kinds laws vals = map_some h (f vals) ∙ laws vals

-- what matches a type that matches a plain one matches that
heaps : (a b c : HeapType) → not (is_concrete c) ≡ true → heap_matches a b ≡ true → heap_matches b c ≡ true → heap_matches a c ≡ true
heaps h.NoFunc h.NoFunc c plain p q = q
heaps h.NoFunc (h.ConcreteFunc t) (h.ConcreteFunc u) plain p q = absurd (false≢true plain)
heaps h.NoFunc (h.ConcreteFunc t) h.Func plain p q = refl
heaps h.NoFunc (h.ConcreteFunc t) _ plain p q = absurd (false≢true q)
heaps h.NoFunc h.Func h.Func plain p q = refl
heaps h.NoFunc h.Func _ plain p q = absurd (false≢true q)
heaps (h.ConcreteFunc s) (h.ConcreteFunc t) (h.ConcreteFunc u) plain p q = absurd (false≢true plain)
heaps (h.ConcreteFunc s) (h.ConcreteFunc t) h.Func plain p q = refl
heaps (h.ConcreteFunc s) (h.ConcreteFunc t) _ plain p q = absurd (false≢true q)
heaps (h.ConcreteFunc s) h.Func h.Func plain p q = refl
heaps (h.ConcreteFunc s) h.Func _ plain p q = absurd (false≢true q)
heaps h.Func h.Func c plain p q = q
heaps h.NoExtern h.NoExtern c plain p q = q
heaps h.NoExtern h.Extern h.Extern plain p q = refl
heaps h.NoExtern h.Extern _ plain p q = absurd (false≢true q)
heaps h.Extern h.Extern c plain p q = q
heaps h.None h.None c plain p q = q
heaps h.None h.I31 h.I31 plain p q = refl
heaps h.None h.I31 h.Eq plain p q = refl
heaps h.None h.I31 h.Any plain p q = refl
heaps h.None h.I31 _ plain p q = absurd (false≢true q)
heaps h.None h.Eq h.Eq plain p q = refl
heaps h.None h.Eq h.Any plain p q = refl
heaps h.None h.Eq _ plain p q = absurd (false≢true q)
heaps h.None h.Any h.Any plain p q = refl
heaps h.None h.Any _ plain p q = absurd (false≢true q)
heaps h.I31 h.I31 c plain p q = q
heaps h.I31 h.Eq h.Eq plain p q = refl
heaps h.I31 h.Eq h.Any plain p q = refl
heaps h.I31 h.Eq _ plain p q = absurd (false≢true q)
heaps h.I31 h.Any h.Any plain p q = refl
heaps h.I31 h.Any _ plain p q = absurd (false≢true q)
heaps h.Eq h.Eq c plain p q = q
heaps h.Eq h.Any h.Any plain p q = refl
heaps h.Eq h.Any _ plain p q = absurd (false≢true q)
heaps h.Any h.Any c plain p q = q
heaps _ _ c plain p q = absurd (false≢true p)

nulls : (a b c : Bool) → (not a || b) ≡ true → (not b || c) ≡ true → (not a || c) ≡ true
nulls true true c p q = q
nulls true false c p q = absurd (false≢true p)
nulls false b c p q = refl

refs : (a b c : RefType) → not (is_concrete (heap_type c)) ≡ true → ref_matches a b ≡ true → ref_matches b c ≡ true → ref_matches a c ≡ true
refs a b c plain p q =
    let x = and_parts (heap_matches (heap_type a) (heap_type b)) (not (is_nullable a) || is_nullable b) p in
    let y = and_parts (heap_matches (heap_type b) (heap_type c)) (not (is_nullable b) || is_nullable c) q in
    and_from (heap_matches (heap_type a) (heap_type c)) (not (is_nullable a) || is_nullable c)
    (heaps (heap_type a) (heap_type b) (heap_type c) plain x.0 y.0)
    (nulls (is_nullable a) (is_nullable b) (is_nullable c) x.1 y.1)

pub vals_match : (a b c : ValType) → is_plain c ≡ true → val_matches a b ≡ true → val_matches b c ≡ true → val_matches a c ≡ true
vals_match t.I32 t.I32 c plain p q = q
vals_match t.I64 t.I64 c plain p q = q
vals_match t.F32 t.F32 c plain p q = q
vals_match t.F64 t.F64 c plain p q = q
vals_match t.V128 t.V128 c plain p q = q
vals_match (t.Ref a) (t.Ref b) (t.Ref c) plain p q = refs a b c plain p q
vals_match (t.Ref a) (t.Ref b) _ plain p q = absurd (false≢true q)
vals_match _ _ c plain p q = absurd (false≢true p)

-- a pair that is accepted at a result matches, and the others are accepted too
accepted : (b : Bool) (rest : Result ⊤ Refusal) → (if b then rest else Err TypeMismatch) ≡ Ok tt → (b ≡ true) × (rest ≡ Ok tt)
accepted true rest p = (refl, p)
accepted false rest p = absurd (err≢ok p)

pub none_accepted : EachAccepted from_none []
none_accepted m [] actuals fit ok = refl
none_accepted m (val ∷ vals) [] fit ok = fit
none_accepted m (val ∷ vals) (actual ∷ actuals) fit ok = absurd (err≢ok ok)

pub more_accepted : {A B : Type 0} (f : Way A) (g : Ways B) (ty : ValType) (tys : List ValType) → is_plain ty ≡ true → EachFits f ty → EachAccepted g tys → EachAccepted (from_more f g) (ty ∷ tys)
more_accepted f g ty tys plain law laws m [] [] fit ok = absurd (err≢ok ok)
more_accepted f g ty tys plain law laws m [] (actual ∷ actuals) fit ok = fit
more_accepted f g ty tys plain law laws m (val ∷ vals) [] fit ok = absurd (err≢ok ok)
more_accepted f g ty tys plain law laws m (val ∷ vals) (actual ∷ actuals) fit ok =
    let fits = and_parts (val_fits m val actual) (all_fit m vals actuals) fit in
    let takes = accepted (val_matches actual ty) (all_checked tys actuals at.Result) ok in
    both_some (f val) (g vals) ∙ and_from (is_some (f val)) (is_some (g vals))
    (law m val (vals_match (least_type m val) actual ty plain fits.0 takes.0))
    (laws m vals actuals fits.1 takes.1)

pub one_accepted : {A : Type 0} (f : Way A) (ty : ValType) → is_plain ty ≡ true → EachFits f ty → EachAccepted (from_one f) (ty ∷ [])
one_accepted f ty plain law m [] [] fit ok = absurd (err≢ok ok)
one_accepted f ty plain law m [] (actual ∷ actuals) fit ok = fit
one_accepted f ty plain law m (val ∷ vals) [] fit ok = absurd (err≢ok ok)
one_accepted f ty plain law m (val ∷ []) (actual ∷ actuals) fit ok =
    let fits = and_parts (val_fits m val actual) (all_fit m [] actuals) fit in
    let takes = accepted (val_matches actual ty) (all_checked [] actuals at.Result) ok in
    law m val (vals_match (least_type m val) actual ty plain fits.0 takes.0)
one_accepted f ty plain law m (val ∷ next ∷ vals) (actual ∷ []) fit ok =
    (and_parts (val_fits m val actual) false fit).1
one_accepted f ty plain law m (val ∷ next ∷ vals) (actual ∷ other ∷ actuals) fit ok =
    absurd (err≢ok (accepted (val_matches actual ty) (Err ResultCount) ok).1)

pub read_accepted : {A B : Type 0} (h : A → B) (f : Ways A) (tys : List ValType) → EachAccepted f tys → EachAccepted (read_as h f) tys
read_accepted h f tys laws m vals actuals fit ok = map_some h (f vals) ∙ laws m vals actuals fit ok

-- there and back, of each member
pub both_back : {A B : Type 0} (a : Option A) (b : Option B) (x : A) (y : B) → a ≡ Some x → b ≡ Some y → both a b ≡ Some (x, y)
both_back a b x y p q = ap (λ o. both o b) p ∙ ap (λ o. both (Some x) o) q

pub read_back : {A B : Type 0} (h : A → B) (o : Option A) (x : A) → o ≡ Some x → option_map h o ≡ Some (h x)
read_back h o x p = ap (option_map h) p
