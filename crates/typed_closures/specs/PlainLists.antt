-- Lists of types in which no function type is. This project's own.
use Rattle.std.specs.Prelude.{◌≡◌, refl, true, List, [], ◌∷◌}
use Rattle.std.proofs.lemmas.Bool.{and_from}
use Rattle.typed_values.specs.StaticTypes.{is_plain, are_plain}
use Rattle.wasm_types.specs.declared.value_types.ValType.{ValType}

pub more_plain : (ty : ValType) (tys : List ValType) → is_plain ty ≡ true → are_plain tys ≡ true → are_plain (ty ∷ tys) ≡ true
more_plain ty tys p q = and_from (is_plain ty) (are_plain tys) p q

pub plain1 : (k0 : ValType) → is_plain k0 ≡ true → are_plain (k0 ∷ []) ≡ true
plain1 k0 p0 =
    more_plain k0 ([]) p0 refl

pub plain2 : (k0 k1 : ValType) → is_plain k0 ≡ true → is_plain k1 ≡ true → are_plain (k0 ∷ k1 ∷ []) ≡ true
plain2 k0 k1 p0 p1 =
    more_plain k0 (k1 ∷ []) p0 (more_plain k1 ([]) p1 refl)

pub plain3 : (k0 k1 k2 : ValType) → is_plain k0 ≡ true → is_plain k1 ≡ true → is_plain k2 ≡ true →
    are_plain (k0 ∷ k1 ∷ k2 ∷ []) ≡ true
plain3 k0 k1 k2 p0 p1 p2 =
    more_plain k0 (k1 ∷ k2 ∷ []) p0 (more_plain k1 (k2 ∷ []) p1 (more_plain k2 ([]) p2 refl))

pub plain4 : (k0 k1 k2 k3 : ValType) → is_plain k0 ≡ true → is_plain k1 ≡ true → is_plain k2 ≡ true →
    is_plain k3 ≡ true → are_plain (k0 ∷ k1 ∷ k2 ∷ k3 ∷ []) ≡ true
plain4 k0 k1 k2 k3 p0 p1 p2 p3 =
    more_plain k0 (k1 ∷ k2 ∷ k3 ∷ []) p0 (more_plain k1 (k2 ∷ k3 ∷ []) p1 (more_plain k2 (k3 ∷ []) p2 (more_plain k3
    ([]) p3 refl)))

pub plain5 : (k0 k1 k2 k3 k4 : ValType) → is_plain k0 ≡ true → is_plain k1 ≡ true → is_plain k2 ≡ true →
    is_plain k3 ≡ true → is_plain k4 ≡ true → are_plain (k0 ∷ k1 ∷ k2 ∷ k3 ∷ k4 ∷ []) ≡ true
plain5 k0 k1 k2 k3 k4 p0 p1 p2 p3 p4 =
    more_plain k0 (k1 ∷ k2 ∷ k3 ∷ k4 ∷ []) p0 (more_plain k1 (k2 ∷ k3 ∷ k4 ∷ []) p1 (more_plain k2 (k3 ∷ k4 ∷ []) p2
    (more_plain k3 (k4 ∷ []) p3 (more_plain k4 ([]) p4 refl))))

pub plain6 : (k0 k1 k2 k3 k4 k5 : ValType) → is_plain k0 ≡ true → is_plain k1 ≡ true → is_plain k2 ≡ true →
    is_plain k3 ≡ true → is_plain k4 ≡ true → is_plain k5 ≡ true → are_plain (k0 ∷ k1 ∷ k2 ∷ k3 ∷ k4 ∷ k5 ∷ []) ≡ true
plain6 k0 k1 k2 k3 k4 k5 p0 p1 p2 p3 p4 p5 =
    more_plain k0 (k1 ∷ k2 ∷ k3 ∷ k4 ∷ k5 ∷ []) p0 (more_plain k1 (k2 ∷ k3 ∷ k4 ∷ k5 ∷ []) p1 (more_plain k2 (k3 ∷ k4
    ∷ k5 ∷ []) p2 (more_plain k3 (k4 ∷ k5 ∷ []) p3 (more_plain k4 (k5 ∷ []) p4 (more_plain k5 ([]) p5 refl)))))
