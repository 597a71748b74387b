-- Laws of tuples of static types that are read from lists: each follows from those of the members.
use Rattle.std.specs.Prelude.{◌≡◌, refl, true, [], ◌∷◌, Option, Some}
use Rattle.std.specs.Option.{option_map}
use Rattle.typed_values.specs.ListLaws.{OfKind, OfKinds, EachFits, EachAccepted, one_of_kinds, more_of_kinds, read_of_kinds, one_accepted, more_accepted, read_accepted, both_back, read_back}
use Rattle.typed_values.specs.Lists.{Way, both, from_one, from_more}
use Rattle.typed_values.specs.StaticTypes.{Kind, is_plain}
use Rattle.typed_values.specs.Tuples.{single, flat3, flat4, flat5, flat6, ways1, ways2, ways3, ways4, ways5, ways6}
use Rattle.wasm_types.specs.declared.value_types.ValType.{ValType}

-- of one
pub of_kinds1 : {A : Type 0} (f0 : Way A) (k0 : Kind) → OfKind f0 k0 → OfKinds (ways1 f0) (k0 ∷ [])
of_kinds1 f0 k0 p0 =
    read_of_kinds single (from_one f0) (k0 ∷ []) (one_of_kinds f0 k0 p0)

pub accepted1 : {A : Type 0} (f0 : Way A) (k0 : ValType) → is_plain k0 ≡ true → EachFits f0 k0 →
    EachAccepted (ways1 f0) (k0 ∷ [])
accepted1 f0 k0 p0 q0 =
    read_accepted single (from_one f0) (k0 ∷ []) (one_accepted f0 k0 p0 q0)

pub back1 : {A : Type 0} {o0 : Option A} {x0 : A} → o0 ≡ Some x0 → option_map single o0 ≡ Some (single x0)
back1 {A} {o0} {x0} p0 =
    read_back single o0 x0 p0

-- of two
pub of_kinds2 : {A B : Type 0} (f0 : Way A) (f1 : Way B) (k0 k1 : Kind) → OfKind f0 k0 → OfKind f1 k1 →
    OfKinds (ways2 f0 f1) (k0 ∷ k1 ∷ [])
of_kinds2 f0 f1 k0 k1 p0 p1 =
    more_of_kinds f0 (from_one f1) k0 (k1 ∷ []) p0 (one_of_kinds f1 k1 p1)

pub accepted2 : {A B : Type 0} (f0 : Way A) (f1 : Way B) (k0 k1 : ValType) → is_plain k0 ≡ true → is_plain k1 ≡ true →
    EachFits f0 k0 → EachFits f1 k1 → EachAccepted (ways2 f0 f1) (k0 ∷ k1 ∷ [])
accepted2 f0 f1 k0 k1 p0 p1 q0 q1 =
    more_accepted f0 (from_one f1) k0 (k1 ∷ []) p0 q0 (one_accepted f1 k1 p1 q1)

pub back2 : {A B : Type 0} {o0 : Option A} {o1 : Option B} {x0 : A} {x1 : B} → o0 ≡ Some x0 → o1 ≡ Some x1 →
    both o0 o1 ≡ Some (x0, x1)
back2 {A} {B} {o0} {o1} {x0} {x1} p0 p1 =
    both_back o0 o1 x0 x1 p0 p1

-- of three
pub of_kinds3 : {A B C : Type 0} (f0 : Way A) (f1 : Way B) (f2 : Way C) (k0 k1 k2 : Kind) → OfKind f0 k0 →
    OfKind f1 k1 → OfKind f2 k2 → OfKinds (ways3 f0 f1 f2) (k0 ∷ k1 ∷ k2 ∷ [])
of_kinds3 f0 f1 f2 k0 k1 k2 p0 p1 p2 =
    read_of_kinds flat3 (from_more f0 (from_more f1 (from_one f2))) (k0 ∷ k1 ∷ k2 ∷ []) (more_of_kinds f0 (from_more
    f1 (from_one f2)) k0 (k1 ∷ k2 ∷ []) p0 (more_of_kinds f1 (from_one f2) k1 (k2 ∷ []) p1 (one_of_kinds f2 k2 p2)))

pub accepted3 : {A B C : Type 0} (f0 : Way A) (f1 : Way B) (f2 : Way C) (k0 k1 k2 : ValType) → is_plain k0 ≡ true →
    is_plain k1 ≡ true → is_plain k2 ≡ true → EachFits f0 k0 → EachFits f1 k1 → EachFits f2 k2 →
    EachAccepted (ways3 f0 f1 f2) (k0 ∷ k1 ∷ k2 ∷ [])
accepted3 f0 f1 f2 k0 k1 k2 p0 p1 p2 q0 q1 q2 =
    read_accepted flat3 (from_more f0 (from_more f1 (from_one f2))) (k0 ∷ k1 ∷ k2 ∷ []) (more_accepted f0 (from_more
    f1 (from_one f2)) k0 (k1 ∷ k2 ∷ []) p0 q0 (more_accepted f1 (from_one f2) k1 (k2 ∷ []) p1 q1 (one_accepted f2 k2
    p2 q2)))

pub back3 : {A B C : Type 0} {o0 : Option A} {o1 : Option B} {o2 : Option C} {x0 : A} {x1 : B} {x2 : C} →
    o0 ≡ Some x0 → o1 ≡ Some x1 → o2 ≡ Some x2 → option_map flat3 (both o0 (both o1 o2)) ≡ Some (x0, x1, x2)
back3 {A} {B} {C} {o0} {o1} {o2} {x0} {x1} {x2} p0 p1 p2 =
    read_back flat3 (both o0 (both o1 o2)) (x0, (x1, x2)) (both_back o0 (both o1 o2) x0 (x1, x2) p0 (both_back o1 o2
    x1 x2 p1 p2))

-- of four
pub of_kinds4 : {A B C D : Type 0} (f0 : Way A) (f1 : Way B) (f2 : Way C) (f3 : Way D) (k0 k1 k2 k3 : Kind) →
    OfKind f0 k0 → OfKind f1 k1 → OfKind f2 k2 → OfKind f3 k3 → OfKinds (ways4 f0 f1 f2 f3) (k0 ∷ k1 ∷ k2 ∷ k3 ∷ [])
of_kinds4 f0 f1 f2 f3 k0 k1 k2 k3 p0 p1 p2 p3 =
    read_of_kinds flat4 (from_more f0 (from_more f1 (from_more f2 (from_one f3)))) (k0 ∷ k1 ∷ k2 ∷ k3 ∷ [])
    (more_of_kinds f0 (from_more f1 (from_more f2 (from_one f3))) k0 (k1 ∷ k2 ∷ k3 ∷ []) p0 (more_of_kinds f1
    (from_more f2 (from_one f3)) k1 (k2 ∷ k3 ∷ []) p1 (more_of_kinds f2 (from_one f3) k2 (k3 ∷ []) p2 (one_of_kinds f3
    k3 p3))))

pub accepted4 : {A B C D : Type 0} (f0 : Way A) (f1 : Way B) (f2 : Way C) (f3 : Way D) (k0 k1 k2 k3 : ValType) →
    is_plain k0 ≡ true → is_plain k1 ≡ true → is_plain k2 ≡ true → is_plain k3 ≡ true → EachFits f0 k0 →
    EachFits f1 k1 → EachFits f2 k2 → EachFits f3 k3 → EachAccepted (ways4 f0 f1 f2 f3) (k0 ∷ k1 ∷ k2 ∷ k3 ∷ [])
accepted4 f0 f1 f2 f3 k0 k1 k2 k3 p0 p1 p2 p3 q0 q1 q2 q3 =
    read_accepted flat4 (from_more f0 (from_more f1 (from_more f2 (from_one f3)))) (k0 ∷ k1 ∷ k2 ∷ k3 ∷ [])
    (more_accepted f0 (from_more f1 (from_more f2 (from_one f3))) k0 (k1 ∷ k2 ∷ k3 ∷ []) p0 q0 (more_accepted f1
    (from_more f2 (from_one f3)) k1 (k2 ∷ k3 ∷ []) p1 q1 (more_accepted f2 (from_one f3) k2 (k3 ∷ []) p2 q2
    (one_accepted f3 k3 p3 q3))))

pub back4 : {A B C D : Type 0} {o0 : Option A} {o1 : Option B} {o2 : Option C} {o3 : Option D} {x0 : A} {x1 : B}
    {x2 : C} {x3 : D} → o0 ≡ Some x0 → o1 ≡ Some x1 → o2 ≡ Some x2 → o3 ≡ Some x3 →
    option_map flat4 (both o0 (both o1 (both o2 o3))) ≡ Some (x0, x1, x2, x3)
back4 {A} {B} {C} {D} {o0} {o1} {o2} {o3} {x0} {x1} {x2} {x3} p0 p1 p2 p3 =
    read_back flat4 (both o0 (both o1 (both o2 o3))) (x0, (x1, (x2, x3))) (both_back o0 (both o1 (both o2 o3)) x0 (
      x1,
      (x2, x3),
    ) p0 (both_back o1 (both o2 o3) x1 (x2, x3) p1 (both_back o2 o3 x2 x3 p2 p3)))

-- of five
pub of_kinds5 : {A B C D E : Type 0} (f0 : Way A) (f1 : Way B) (f2 : Way C) (f3 : Way D) (f4 : Way E)
    (k0 k1 k2 k3 k4 : Kind) → OfKind f0 k0 → OfKind f1 k1 → OfKind f2 k2 → OfKind f3 k3 → OfKind f4 k4 →
    OfKinds (ways5 f0 f1 f2 f3 f4) (k0 ∷ k1 ∷ k2 ∷ k3 ∷ k4 ∷ [])
of_kinds5 f0 f1 f2 f3 f4 k0 k1 k2 k3 k4 p0 p1 p2 p3 p4 =
    read_of_kinds flat5 (from_more f0 (from_more f1 (from_more f2 (from_more f3 (from_one f4))))) (k0 ∷ k1 ∷ k2 ∷ k3 ∷
    k4 ∷ []) (more_of_kinds f0 (from_more f1 (from_more f2 (from_more f3 (from_one f4)))) k0 (k1 ∷ k2 ∷ k3 ∷ k4 ∷ [])
    p0 (more_of_kinds f1 (from_more f2 (from_more f3 (from_one f4))) k1 (k2 ∷ k3 ∷ k4 ∷ []) p1 (more_of_kinds f2
    (from_more f3 (from_one f4)) k2 (k3 ∷ k4 ∷ []) p2 (more_of_kinds f3 (from_one f4) k3 (k4 ∷ []) p3 (one_of_kinds f4
    k4 p4)))))

pub accepted5 : {A B C D E : Type 0} (f0 : Way A) (f1 : Way B) (f2 : Way C) (f3 : Way D) (f4 : Way E)
    (k0 k1 k2 k3 k4 : ValType) → is_plain k0 ≡ true → is_plain k1 ≡ true → is_plain k2 ≡ true → is_plain k3 ≡ true →
    is_plain k4 ≡ true → EachFits f0 k0 → EachFits f1 k1 → EachFits f2 k2 → EachFits f3 k3 → EachFits f4 k4 →
    EachAccepted (ways5 f0 f1 f2 f3 f4) (k0 ∷ k1 ∷ k2 ∷ k3 ∷ k4 ∷ [])
accepted5 f0 f1 f2 f3 f4 k0 k1 k2 k3 k4 p0 p1 p2 p3 p4 q0 q1 q2 q3 q4 =
    read_accepted flat5 (from_more f0 (from_more f1 (from_more f2 (from_more f3 (from_one f4))))) (k0 ∷ k1 ∷ k2 ∷ k3 ∷
    k4 ∷ []) (more_accepted f0 (from_more f1 (from_more f2 (from_more f3 (from_one f4)))) k0 (k1 ∷ k2 ∷ k3 ∷ k4 ∷ [])
    p0 q0 (more_accepted f1 (from_more f2 (from_more f3 (from_one f4))) k1 (k2 ∷ k3 ∷ k4 ∷ []) p1 q1 (more_accepted f2
    (from_more f3 (from_one f4)) k2 (k3 ∷ k4 ∷ []) p2 q2 (more_accepted f3 (from_one f4) k3 (k4 ∷ []) p3 q3
    (one_accepted f4 k4 p4 q4)))))

pub back5 : {A B C D E : Type 0} {o0 : Option A} {o1 : Option B} {o2 : Option C} {o3 : Option D} {o4 : Option E}
    {x0 : A} {x1 : B} {x2 : C} {x3 : D} {x4 : E} → o0 ≡ Some x0 → o1 ≡ Some x1 → o2 ≡ Some x2 → o3 ≡ Some x3 →
    o4 ≡ Some x4 → option_map flat5 (both o0 (both o1 (both o2 (both o3 o4)))) ≡ Some (x0, x1, x2, x3, x4)
back5 {A} {B} {C} {D} {E} {o0} {o1} {o2} {o3} {o4} {x0} {x1} {x2} {x3} {x4} p0 p1 p2 p3 p4 =
    read_back flat5 (both o0 (both o1 (both o2 (both o3 o4)))) (x0, (x1, (x2, (x3, x4)))) (both_back o0 (both o1 (both
    o2 (both o3 o4))) x0 (x1, (x2, (x3, x4))) p0 (both_back o1 (both o2 (both o3 o4)) x1 (x2, (x3, x4)) p1 (both_back
    o2 (both o3 o4) x2 (x3, x4) p2 (both_back o3 o4 x3 x4 p3 p4))))

-- of six
pub of_kinds6 : {A B C D E F : Type 0} (f0 : Way A) (f1 : Way B) (f2 : Way C) (f3 : Way D) (f4 : Way E) (f5 : Way F)
    (k0 k1 k2 k3 k4 k5 : Kind) → OfKind f0 k0 → OfKind f1 k1 → OfKind f2 k2 → OfKind f3 k3 → OfKind f4 k4 →
    OfKind f5 k5 → OfKinds (ways6 f0 f1 f2 f3 f4 f5) (k0 ∷ k1 ∷ k2 ∷ k3 ∷ k4 ∷ k5 ∷ [])
of_kinds6 f0 f1 f2 f3 f4 f5 k0 k1 k2 k3 k4 k5 p0 p1 p2 p3 p4 p5 =
    read_of_kinds flat6 (from_more f0 (from_more f1 (from_more f2 (from_more f3 (from_more f4 (from_one f5)))))) (k0 ∷
    k1 ∷ k2 ∷ k3 ∷ k4 ∷ k5 ∷ []) (more_of_kinds f0 (from_more f1 (from_more f2 (from_more f3 (from_more f4 (from_one
    f5))))) k0 (k1 ∷ k2 ∷ k3 ∷ k4 ∷ k5 ∷ []) p0 (more_of_kinds f1 (from_more f2 (from_more f3 (from_more f4 (from_one
    f5)))) k1 (k2 ∷ k3 ∷ k4 ∷ k5 ∷ []) p1 (more_of_kinds f2 (from_more f3 (from_more f4 (from_one f5))) k2 (k3 ∷ k4 ∷
    k5 ∷ []) p2 (more_of_kinds f3 (from_more f4 (from_one f5)) k3 (k4 ∷ k5 ∷ []) p3 (more_of_kinds f4 (from_one f5) k4
    (k5 ∷ []) p4 (one_of_kinds f5 k5 p5))))))

pub accepted6 : {A B C D E F : Type 0} (f0 : Way A) (f1 : Way B) (f2 : Way C) (f3 : Way D) (f4 : Way E) (f5 : Way F)
    (k0 k1 k2 k3 k4 k5 : ValType) → is_plain k0 ≡ true → is_plain k1 ≡ true → is_plain k2 ≡ true →
    is_plain k3 ≡ true → is_plain k4 ≡ true → is_plain k5 ≡ true → EachFits f0 k0 → EachFits f1 k1 → EachFits f2 k2 →
    EachFits f3 k3 → EachFits f4 k4 → EachFits f5 k5 → EachAccepted (ways6 f0 f1 f2 f3 f4 f5)
    (k0 ∷ k1 ∷ k2 ∷ k3 ∷ k4 ∷ k5 ∷ [])
accepted6 f0 f1 f2 f3 f4 f5 k0 k1 k2 k3 k4 k5 p0 p1 p2 p3 p4 p5 q0 q1 q2 q3 q4 q5 =
    read_accepted flat6 (from_more f0 (from_more f1 (from_more f2 (from_more f3 (from_more f4 (from_one f5)))))) (k0 ∷
    k1 ∷ k2 ∷ k3 ∷ k4 ∷ k5 ∷ []) (more_accepted f0 (from_more f1 (from_more f2 (from_more f3 (from_more f4 (from_one
    f5))))) k0 (k1 ∷ k2 ∷ k3 ∷ k4 ∷ k5 ∷ []) p0 q0 (more_accepted f1 (from_more f2 (from_more f3 (from_more f4
    (from_one f5)))) k1 (k2 ∷ k3 ∷ k4 ∷ k5 ∷ []) p1 q1 (more_accepted f2 (from_more f3 (from_more f4 (from_one f5)))
    k2 (k3 ∷ k4 ∷ k5 ∷ []) p2 q2 (more_accepted f3 (from_more f4 (from_one f5)) k3 (k4 ∷ k5 ∷ []) p3 q3 (more_accepted
    f4 (from_one f5) k4 (k5 ∷ []) p4 q4 (one_accepted f5 k5 p5 q5))))))

pub back6 : {A B C D E F : Type 0} {o0 : Option A} {o1 : Option B} {o2 : Option C} {o3 : Option D} {o4 : Option E}
    {o5 : Option F} {x0 : A} {x1 : B} {x2 : C} {x3 : D} {x4 : E} {x5 : F} → o0 ≡ Some x0 → o1 ≡ Some x1 →
    o2 ≡ Some x2 → o3 ≡ Some x3 → o4 ≡ Some x4 → o5 ≡ Some x5 →
    option_map flat6 (both o0 (both o1 (both o2 (both o3 (both o4 o5))))) ≡ Some (x0, x1, x2, x3, x4, x5)
back6 {A} {B} {C} {D} {E} {F} {o0} {o1} {o2} {o3} {o4} {o5} {x0} {x1} {x2} {x3} {x4} {x5} p0 p1 p2 p3 p4 p5 =
    read_back flat6 (both o0 (both o1 (both o2 (both o3 (both o4 o5))))) (x0, (x1, (x2, (x3, (x4, x5))))) (both_back
    o0 (both o1 (both o2 (both o3 (both o4 o5)))) x0 (x1, (x2, (x3, (x4, x5)))) p0 (both_back o1 (both o2 (both o3
    (both o4 o5))) x1 (x2, (x3, (x4, x5))) p1 (both_back o2 (both o3 (both o4 o5)) x2 (x3, (x4, x5)) p2 (both_back o3
    (both o4 o5) x3 (x4, x5) p3 (both_back o4 o5 x4 x5 p4 p5)))))
