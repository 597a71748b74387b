-- A signature as one of the values that the logic can store, and back.
use Rattle.std.specs.Prelude.{ℕ, zero, suc, Bool, true, false, ◌≡◌, refl}
use Rattle.std.specs.Coded.{Coded}
use base.Stored.{Gv, gnil, gnum, gcons}
use mathlib.Core.Path.{sym, ap, ◌∙◌}
use Rattle.wasm_types.specs.Signatures.{Abstract, Number, Heap, Signature, Supertype, Types, signature, root, below, end, number, ref, abstract, concrete, no_func, func, no_extern, extern, none, i31, eq, any, i32, i64, f32, f64, v128}
use Rattle.wasm_types.specs.Equality.{of_finality, of_number, of_abstract}
use Rattle.wasm_types.specs.declared.plain.Finality.{Finality}
use Rattle.wasm_types.specs.declared.plain.Finality.TheVariants.{Final, NonFinal}

abbrev of_bool : Bool → ℕ
of_bool true = 1
of_bool false = 0

abbrev to_bool : ℕ → Bool
to_bool zero = false
to_bool (suc n) = true

to_of_bool : (b : Bool) → to_bool (of_bool b) ≡ b
to_of_bool true = refl
to_of_bool false = refl

abbrev pub to_finality : ℕ → Finality
to_finality zero = Final
to_finality (suc n) = NonFinal

pub to_of_finality : (f : Finality) → to_finality (of_finality f) ≡ f
to_of_finality Final = refl
to_of_finality NonFinal = refl

abbrev pub to_number : ℕ → Number
to_number zero = i32
to_number (suc zero) = i64
to_number (suc (suc zero)) = f32
to_number (suc (suc (suc zero))) = f64
to_number (suc (suc (suc (suc n)))) = v128

pub to_of_number : (n : Number) → to_number (of_number n) ≡ n
to_of_number i32 = refl
to_of_number i64 = refl
to_of_number f32 = refl
to_of_number f64 = refl
to_of_number v128 = refl

abbrev pub to_abstract : ℕ → Abstract
to_abstract zero = no_func
to_abstract (suc zero) = func
to_abstract (suc (suc zero)) = no_extern
to_abstract (suc (suc (suc zero))) = extern
to_abstract (suc (suc (suc (suc zero)))) = none
to_abstract (suc (suc (suc (suc (suc zero))))) = i31
to_abstract (suc (suc (suc (suc (suc (suc zero)))))) = eq
to_abstract (suc (suc (suc (suc (suc (suc (suc n))))))) = any

pub to_of_abstract : (a : Abstract) → to_abstract (of_abstract a) ≡ a
to_of_abstract no_func = refl
to_of_abstract func = refl
to_of_abstract no_extern = refl
to_of_abstract extern = refl
to_of_abstract none = refl
to_of_abstract i31 = refl
to_of_abstract eq = refl
to_of_abstract any = refl

abbrev num : Gv → ℕ
num (gnum n) = n
num _ = 0

abbrev mutual
  of_signature : Signature → Gv
  of_signature (signature e f s ps rs) =
      gcons (gnum e) (gcons (gnum (of_finality f)) (gcons (of_supertype s) (gcons (of_types ps) (of_types rs))))

  of_supertype : Supertype → Gv
  of_supertype root = gnil
  of_supertype (below t) = gcons gnil (of_signature t)

  of_types : Types → Gv
  of_types end = gnil
  of_types (number n ts) = gcons (gnum (of_number n)) (of_types ts)
  of_types (ref b h ts) = gcons (gcons (gnum (of_bool b)) (of_heap h)) (of_types ts)

  of_heap : Heap → Gv
  of_heap (abstract a) = gnum (of_abstract a)
  of_heap (concrete t) = gcons gnil (of_signature t)

abbrev mutual
  to_signature : Gv → Signature
  to_signature (gcons e (gcons f (gcons s (gcons ps rs)))) =
      signature (num e) (to_finality (num f)) (to_supertype s) (to_types ps) (to_types rs)
  to_signature _ = signature 0 Final root end end

  to_supertype : Gv → Supertype
  to_supertype (gcons g t) = below (to_signature t)
  to_supertype _ = root

  to_types : Gv → Types
  to_types (gcons (gnum n) ts) = number (to_number n) (to_types ts)
  to_types (gcons (gcons b h) ts) = ref (to_bool (num b)) (to_heap h) (to_types ts)
  to_types _ = end

  to_heap : Gv → Heap
  to_heap (gnum n) = abstract (to_abstract n)
  to_heap (gcons g t) = concrete (to_signature t)
  to_heap gnil = abstract no_func

mutual
  to_of_signature : (t : Signature) → to_signature (of_signature t) ≡ t
  to_of_signature (signature e f s ps rs) =
      λ i. signature e (to_of_finality f i) (to_of_supertype s i) (to_of_types ps i) (to_of_types rs i)

  to_of_supertype : (s : Supertype) → to_supertype (of_supertype s) ≡ s
  to_of_supertype root = refl
  to_of_supertype (below t) = λ i. below (to_of_signature t i)

  to_of_types : (ts : Types) → to_types (of_types ts) ≡ ts
  to_of_types end = refl
  to_of_types (number n ts) = λ i. number (to_of_number n i) (to_of_types ts i)
  to_of_types (ref b h ts) = λ i. ref (to_of_bool b i) (to_of_heap h i) (to_of_types ts i)

  to_of_heap : (h : Heap) → to_heap (of_heap h) ≡ h
  to_of_heap (abstract a) = λ i. abstract (to_of_abstract a i)
  to_of_heap (concrete t) = λ i. concrete (to_of_signature t i)

pub signature_inj : (x y : Signature) → of_signature x ≡ of_signature y → x ≡ y
signature_inj x y p = sym (to_of_signature x) ∙ ap to_signature p ∙ to_of_signature y

abbrev pub signature_code : Coded Signature
signature_code = record { code = of_signature; inj = signature_inj }
