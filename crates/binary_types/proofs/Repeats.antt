-- Reading one item after another, by the number of those that are still to come.
use Rattle.std.proofs.Common.{◌≡◌, ℕ, suc, ◌+◌, ◌-◌, ◌<◌, ◌≤◌, List, [], ◌∷◌, ◌++◌, Result, Ok, Err, arith, refl, sym, ◌∙◌, ap, subst, append_assoc}
use Rattle.wasm_leb.specs.Places.{Place}
use Rattle.wasm_types.specs.Signatures.{Signature}
use Rattle.binary_types.specs.Reading.{Read, Reads, then, times}
use Rattle.binary_types.specs.FunctionTypes.{function_type, types_behind}
use Rattle.binary_types.specs.declared.faults.BinaryFault.{BinaryFault}
use Rattle.binary_types.specs.declared.faults.BinaryFault.TheVariants.{Malformed, Unsupported, Index, Alignment, Refused, OutOfMemory}

-- what was read before stands in front of the rest
abbrev pub behind : {A : Type 0} → List A → Result (List A × Place) BinaryFault → Result (List A × Place) BinaryFault
behind before r = then r (λ xs p. Ok (before ++ xs, p))

behind_nothing : {A : Type 0} (r : Result (List A × Place) BinaryFault) → r ≡ behind [] r
behind_nothing (Ok r) = refl
behind_nothing (Err e) = refl

pub times_begun : {A : Type 0} (n : ℕ) (read : Read A) (p : Place) → times n read p ≡ then (times (n - 0) read p) (λ xs q. Ok ([] ++ xs, q))
times_begun n read p =
    let e : n ≡ n - 0 = omega arith in
    behind_nothing (times n read p) ∙ ap (λ (k : ℕ). behind [] (times k read p)) e

pub times_ended : {A : Type 0} (n i : ℕ) (read : Read A) (before : List A) (p : Place) → n ≤ i → then (times (n - i) read p) (λ xs q. Ok (before ++ xs, q)) ≡ Ok (before ++ [], p)
times_ended n i read before p h =
    let e : n - i ≡ 0 = omega arith in
    ap (λ (k : ℕ). behind before (times k read p)) e

one_more : {A : Type 0} (before : List A) (x : A) (r : Result (List A × Place) BinaryFault) → behind before (then r (λ xs q. Ok (x ∷ xs, q))) ≡ behind (before ++ x ∷ []) r
one_more before x (Ok r) = ap (λ (xs : List _). Ok (xs, r.1)) (sym (append_assoc before (x ∷ []) r.0))
one_more before x (Err e) = refl

pub times_more : {A : Type 0} (n i : ℕ) (read : Read A) (before : List A) (p : Place) (x : A) (q : Place) → i < n → read p ≡ Ok (x, q) → then (times (n - i) read p) (λ xs e. Ok (before ++ xs, e)) ≡ then (times (n - (i + 1)) read q) (λ xs e. Ok ((before ++ x ∷ []) ++ xs, e))
times_more n i read before p x q h e =
    let k : n - i ≡ suc (n - (i + 1)) = omega arith in
    ap (λ (m : ℕ). behind before (times m read p)) k
    ∙ ap (λ (r : Result (_ × Place) BinaryFault). behind before (then r (λ y s. then (times (n - (i + 1)) read s) (λ xs t. Ok (y ∷ xs, t))))) e
    ∙ one_more before x (times (n - (i + 1)) read q)

pub times_failed : {A : Type 0} (n i : ℕ) (read : Read A) (before : List A) (p : Place) (fault : BinaryFault) → i < n → read p ≡ Err fault → then (times (n - i) read p) (λ xs e. Ok (before ++ xs, e)) ≡ Err fault
times_failed n i read before p fault h e =
    let k : n - i ≡ suc (n - (i + 1)) = omega arith in
    ap (λ (m : ℕ). behind before (times m read p)) k
    ∙ ap (λ (r : Result (_ × Place) BinaryFault). behind before (then r (λ y s. then (times (n - (i + 1)) read s) (λ xs t. Ok (y ∷ xs, t))))) e

-- the item at hand stands behind those before, and the others are still to come
pub times_kept : {A : Type 0} (n i : ℕ) (read : Read A) (before : List A) (p : Place) (x : A) (q : Place) (total : Result (List A × Place) BinaryFault) (items : List A) → i < n → total ≡ then (times (n - i) read p) (λ xs e. Ok (before ++ xs, e)) → read p ≡ Ok (x, q) → items ≡ before ++ x ∷ [] → total ≡ then (times (n - (i + 1)) read q) (λ xs e. Ok (items ++ xs, e))
times_kept n i read before p x q total items h t e s =
    t ∙ times_more n i read before p x q h e ∙ ap (λ (ys : List _). behind ys (times (n - (i + 1)) read q)) (sym s)

-- a fault of the item at hand is that of the whole
pub times_stopped : {A : Type 0} (n i : ℕ) (read : Read A) (before : List A) (p : Place) (fault : BinaryFault) (q : Place) (total : Result (List A × Place) BinaryFault) → i < n → total ≡ then (times (n - i) read p) (λ xs e. Ok (before ++ xs, e)) → Reads (read p) (Err fault) q → Reads total (Err fault) q
times_stopped n i read before p Malformed q total h t e = t ∙ times_failed n i read before p Malformed h e
times_stopped n i read before p (Unsupported a c) q total h t e = t ∙ times_failed n i read before p (Unsupported a c) h e
times_stopped n i read before p (Index a) q total h t e = t ∙ times_failed n i read before p (Index a) h e
times_stopped n i read before p (Alignment a) q total h t e = t ∙ times_failed n i read before p (Alignment a) h e
times_stopped n i read before p (Refused a f) q total h t e = t ∙ times_failed n i read before p (Refused a f) h e
times_stopped n i read before p OutOfMemory q total h t e = tt

pub types_begun : (engine n : ℕ) (ts : List Signature) (p : Place) → types_behind engine n ts p ≡ types_behind engine (n - 0) ts p
types_begun engine n ts p = let e : n ≡ n - 0 = omega arith in ap (λ (k : ℕ). types_behind engine k ts p) e

pub types_ended : (engine n i : ℕ) (ts : List Signature) (p : Place) → n ≤ i → types_behind engine (n - i) ts p ≡ Ok (ts, p)
types_ended engine n i ts p h = let e : n - i ≡ 0 = omega arith in ap (λ (k : ℕ). types_behind engine k ts p) e

pub types_more : (engine n i : ℕ) (ts : List Signature) (p : Place) (t : Signature) (q : Place) → i < n → function_type engine ts p ≡ Ok (t, q) → types_behind engine (n - i) ts p ≡ types_behind engine (n - (i + 1)) (ts ++ t ∷ []) q
types_more engine n i ts p t q h e =
    let k : n - i ≡ suc (n - (i + 1)) = omega arith in
    ap (λ (m : ℕ). types_behind engine m ts p) k
    ∙ ap (λ (r : Result (Signature × Place) BinaryFault). then r (λ u s. types_behind engine (n - (i + 1)) (ts ++ u ∷ []) s)) e

pub types_failed : (engine n i : ℕ) (ts : List Signature) (p : Place) (fault : BinaryFault) → i < n → function_type engine ts p ≡ Err fault → types_behind engine (n - i) ts p ≡ Err fault
types_failed engine n i ts p fault h e =
    let k : n - i ≡ suc (n - (i + 1)) = omega arith in
    ap (λ (m : ℕ). types_behind engine m ts p) k
    ∙ ap (λ (r : Result (Signature × Place) BinaryFault). then r (λ u s. types_behind engine (n - (i + 1)) (ts ++ u ∷ []) s)) e

pub types_stopped : (engine n i : ℕ) (ts : List Signature) (p : Place) (fault : BinaryFault) (q : Place) (total : Result (List Signature × Place) BinaryFault) → i < n → total ≡ types_behind engine (n - i) ts p → Reads (function_type engine ts p) (Err fault) q → Reads total (Err fault) q
types_stopped engine n i ts p Malformed q total h t e = t ∙ types_failed engine n i ts p Malformed h e
types_stopped engine n i ts p (Unsupported a c) q total h t e = t ∙ types_failed engine n i ts p (Unsupported a c) h e
types_stopped engine n i ts p (Index a) q total h t e = t ∙ types_failed engine n i ts p (Index a) h e
types_stopped engine n i ts p (Alignment a) q total h t e = t ∙ types_failed engine n i ts p (Alignment a) h e
types_stopped engine n i ts p (Refused a f) q total h t e = t ∙ types_failed engine n i ts p (Refused a f) h e
types_stopped engine n i ts p OutOfMemory q total h t e = tt
