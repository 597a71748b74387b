-- Reading one part after another, by those that are still to come.
use Rattle.std.specs.Prelude.{IfOk, is_err, is_ok}
use Rattle.std.proofs.lemmas.List.{length-replicate}
use Rattle.std.proofs.Common.{◌≡◌, ℕ, false, cond, get_or, drop-cons, length-append, suc, ◌+◌, ◌-◌, ◌<◌, ◌≤◌, List, [], ◌∷◌, ◌++◌, length, replicate, drop, Result, Ok, Err, arith, refl, sym, ◌∙◌, ap, append_assoc, append-nil}
use Rattle.wasm_leb.specs.Places.{Place}
use Rattle.wasm_types.specs.Signatures.{Signature}
use Rattle.wasm_types.specs.declared.value_types.ValType.{ValType}
use Rattle.binary_types.specs.Reading.{Reads, then}
use Rattle.binary_types.specs.declared.faults.BinaryFault.{BinaryFault}
use Rattle.binary_types.specs.declared.faults.BinaryFault.TheVariants.{Malformed, Unsupported, Index, Alignment, Refused, OutOfMemory}
use Rattle.binary_code.specs.Bodies.{bodies_of, functions_of, local_group, locals_behind, locals_in, sized_body}
use Rattle.binary_code.specs.declared.bodies.FuncBody.{FuncBody}
use Rattle.binary_code.specs.declared.context.CodeContext.{CodeContext}
use Rattle.binary_code.specs.declared.locals.LocalGroup.{LocalGroup}
use Rattle.binary_code.specs.declared.section.Functions.{Functions}
use Rattle.wasm_syntax.specs.declared.declarations.FuncDecl.{FuncDecl}

-- a fault of the part at hand is that of the whole
pub stopped : {A B : Type 0} (part : Result (A × Place) BinaryFault) (f : A → Place → Result (B × Place) BinaryFault) (total : Result (B × Place) BinaryFault) (fault : BinaryFault) (q r : Place) → total ≡ then part f → Reads part (Err fault) q → Reads total (Err fault) r
stopped part f total Malformed q r t e = t ∙ ap (λ x. then x f) e
stopped part f total (Unsupported a c) q r t e = t ∙ ap (λ x. then x f) e
stopped part f total (Index a) q r t e = t ∙ ap (λ x. then x f) e
stopped part f total (Alignment a) q r t e = t ∙ ap (λ x. then x f) e
stopped part f total (Refused a k) q r t e = t ∙ ap (λ x. then x f) e
stopped part f total OutOfMemory q r t e = tt

-- locals that were read stand in front of the rest
abbrev pub locals_due : List Signature → ℕ → List ValType → Place → Result (List ValType × Place) BinaryFault
locals_due types n before p = then (locals_behind types n (length before) p) (λ rest q. Ok (before ++ rest, q))

behind_nothing : (r : Result (List ValType × Place) BinaryFault) → r ≡ then r (λ rest q. Ok ([] ++ rest, q))
behind_nothing (Ok r) = refl
behind_nothing (Err e) = refl

pub locals_begun : (types : List Signature) (n : ℕ) (p : Place) → locals_behind types n 0 p ≡ locals_due types (n - 0) [] p
locals_begun types n p =
    let e : n ≡ n - 0 = omega arith in
    behind_nothing (locals_behind types n 0 p) ∙ ap (λ (k : ℕ). locals_due types k [] p) e

pub locals_ended : (types : List Signature) (n i : ℕ) (before : List ValType) (p : Place) → n ≤ i → locals_due types (n - i) before p ≡ Ok (before, p)
locals_ended types n i before p h =
    let e : n - i ≡ 0 = omega arith in
    ap (λ (k : ℕ). locals_due types k before p) e ∙ ap (λ (xs : List ValType). Ok (xs, p)) (append-nil before)

-- by the group at hand
abbrev pub locals_by : List Signature → ℕ → List ValType → LocalGroup → Place → Result (List ValType × Place) BinaryFault
locals_by types n before g q =
    then (then (locals_behind types n (length before + g.count) q) (λ rest r. Ok (replicate g.count g.ty ++ rest, r))) (λ rest r. Ok (before ++ rest, r))

then_of : (types : List Signature) (n : ℕ) (before : List ValType) (r : Result (LocalGroup × Place) BinaryFault) →
    then (then r (λ g q. then (locals_behind types n (length before + g.count) q) (λ rest s. Ok (replicate g.count g.ty ++ rest, s)))) (λ rest s. Ok (before ++ rest, s)) ≡ then r (locals_by types n before)
then_of types n before (Ok r) = refl
then_of types n before (Err e) = refl

pub locals_next : (types : List Signature) (n i : ℕ) (before : List ValType) (p : Place) → i < n → locals_due types (n - i) before p ≡ then (local_group types (length before) p) (locals_by types (n - (i + 1)) before)
locals_next types n i before p h =
    let k : n - i ≡ suc (n - (i + 1)) = omega arith in
    ap (λ (m : ℕ). locals_due types m before p) k ∙ then_of types (n - (i + 1)) before (local_group types (length before) p)

joined : (before more : List ValType) (r : Result (List ValType × Place) BinaryFault) → then (then r (λ rest q. Ok (more ++ rest, q))) (λ rest q. Ok (before ++ rest, q)) ≡ then r (λ rest q. Ok ((before ++ more) ++ rest, q))
joined before more (Ok r) = ap (λ (xs : List ValType). Ok (xs, r.1)) (sym (append_assoc before more r.0))
joined before more (Err e) = refl

pub locals_kept : (types : List Signature) (n i : ℕ) (before after : List ValType) (p q : Place) (g : LocalGroup) (total : Result (List ValType × Place) BinaryFault) → i < n → total ≡ locals_due types (n - i) before p → local_group types (length before) p ≡ Ok (g, q) → after ≡ before ++ replicate g.count g.ty → length after ≡ length before + g.count → total ≡ locals_due types (n - (i + 1)) after q
locals_kept types n i before after p q g total h t e same long =
    t ∙ locals_next types n i before p h ∙ ap (λ (r : Result (LocalGroup × Place) BinaryFault). then r (locals_by types (n - (i + 1)) before)) e
    ∙ joined before (replicate g.count g.ty) (locals_behind types (n - (i + 1)) (length before + g.count) q)
    ∙ ap (λ (k : ℕ). then (locals_behind types (n - (i + 1)) k q) (λ rest r. Ok ((before ++ replicate g.count g.ty) ++ rest, r))) (sym long)
    ∙ ap (λ (xs : List ValType). then (locals_behind types (n - (i + 1)) (length after) q) (λ rest r. Ok (xs ++ rest, r))) (sym same)

pub locals_stopped : (types : List Signature) (n i : ℕ) (before : List ValType) (p q r : Place) (fault : BinaryFault) (total : Result (List ValType × Place) BinaryFault) → i < n → total ≡ locals_due types (n - i) before p → Reads (local_group types (length before) p) (Err fault) q → Reads total (Err fault) r
locals_stopped types n i before p q r fault total h t e =
    stopped (local_group types (length before) p) (locals_by types (n - (i + 1)) before) total fault q r (t ∙ locals_next types n i before p h) e

-- functions that were read stand in front of the rest
abbrev pub bodies_due : CodeContext → List ℕ → List FuncDecl → List Signature → Place → Result (Functions × Place) BinaryFault
bodies_due c tys before types p = then (bodies_of c tys types p) (λ rest q. Ok (functions_of (before ++ rest.functions) rest.types, q))

none_before : (r : Result (Functions × Place) BinaryFault) → r ≡ then r (λ rest q. Ok (functions_of ([] ++ rest.functions) rest.types, q))
none_before (Ok r) = refl
none_before (Err e) = refl

pub bodies_begun : (c : CodeContext) (tys : List ℕ) (types : List Signature) (p : Place) → bodies_of c tys types p ≡ bodies_due c tys [] types p
bodies_begun c tys types p = none_before (bodies_of c tys types p)

pub bodies_ended : (c : CodeContext) (before : List FuncDecl) (types : List Signature) (p : Place) → bodies_due c [] before types p ≡ Ok (functions_of before types, p)
bodies_ended c before types p = ap (λ (fs : List FuncDecl). Ok (functions_of fs types, p)) (append-nil before)

abbrev pub bodies_by : CodeContext → List ℕ → List FuncDecl → FuncBody → Place → Result (Functions × Place) BinaryFault
bodies_by c tys before b q =
    then (then (bodies_of c tys b.types q) (λ rest r. Ok (functions_of (b.function ∷ rest.functions) rest.types, r))) (λ rest r. Ok (functions_of (before ++ rest.functions) rest.types, r))

then_body : (c : CodeContext) (tys : List ℕ) (before : List FuncDecl) (r : Result (FuncBody × Place) BinaryFault) →
    then (then r (λ b q. then (bodies_of c tys b.types q) (λ rest s. Ok (functions_of (b.function ∷ rest.functions) rest.types, s)))) (λ rest s. Ok (functions_of (before ++ rest.functions) rest.types, s)) ≡ then r (bodies_by c tys before)
then_body c tys before (Ok r) = refl
then_body c tys before (Err e) = refl

one_joined : (before : List FuncDecl) (f : FuncDecl) (r : Result (Functions × Place) BinaryFault) →
    then (then r (λ rest q. Ok (functions_of (f ∷ rest.functions) rest.types, q))) (λ rest q. Ok (functions_of (before ++ rest.functions) rest.types, q)) ≡ then r (λ rest q. Ok (functions_of ((before ++ f ∷ []) ++ rest.functions) rest.types, q))
one_joined before f (Ok r) = ap (λ (fs : List FuncDecl). Ok (functions_of fs r.0.types, r.1)) (sym (append_assoc before (f ∷ []) r.0.functions))
one_joined before f (Err e) = refl

pub bodies_next : (c : CodeContext) (ty : ℕ) (tys : List ℕ) (before : List FuncDecl) (types : List Signature) (p : Place) → bodies_due c (ty ∷ tys) before types p ≡ then (sized_body c ty types p) (bodies_by c tys before)
bodies_next c ty tys before types p = then_body c tys before (sized_body c ty types p)

pub bodies_kept : (c : CodeContext) (ty : ℕ) (all tys : List ℕ) (before after : List FuncDecl) (types : List Signature) (p q : Place) (b : FuncBody) (total : Result (Functions × Place) BinaryFault) → all ≡ ty ∷ tys → total ≡ bodies_due c all before types p → sized_body c ty types p ≡ Ok (b, q) → after ≡ before ++ b.function ∷ [] → total ≡ bodies_due c tys after b.types q
bodies_kept c ty all tys before after types p q b total split t e same =
    t ∙ ap (λ (ks : List ℕ). bodies_due c ks before types p) split ∙ bodies_next c ty tys before types p
    ∙ ap (λ (r : Result (FuncBody × Place) BinaryFault). then r (bodies_by c tys before)) e
    ∙ one_joined before b.function (bodies_of c tys b.types q)
    ∙ ap (λ (fs : List FuncDecl). bodies_due c tys fs b.types q) (sym same)

pub bodies_stopped : (c : CodeContext) (ty : ℕ) (all tys : List ℕ) (before : List FuncDecl) (types : List Signature) (p q r : Place) (fault : BinaryFault) (total : Result (Functions × Place) BinaryFault) → all ≡ ty ∷ tys → total ≡ bodies_due c all before types p → Reads (sized_body c ty types p) (Err fault) q → Reads total (Err fault) r
bodies_stopped c ty all tys before types p q r fault total split t e =
    stopped (sized_body c ty types p) (bodies_by c tys before) total fault q r
    (t ∙ ap (λ (ks : List ℕ). bodies_due c ks before types p) split ∙ bodies_next c ty tys before types p) e

pub locals_more : (fs : List FuncDecl) (f : FuncDecl) → locals_in (fs ++ f ∷ []) ≡ locals_in fs + length f.locals
locals_more [] f = omega arith
locals_more (g ∷ fs) f = let e : locals_in (fs ++ f ∷ []) ≡ locals_in fs + length f.locals = locals_more fs f in omega (arith, e)

pub if_ok : {A E : Type 0} (P : Type 0) (r : Result A E) → IfOk r (λ _. P) → is_err r ≡ false → P
if_ok P (Ok x) h e = h
if_ok P (Err x) h e = absurd (cc e)

pub added_long : (before after : List ValType) (n : ℕ) (t : ValType) → after ≡ before ++ replicate n t → length after ≡ length before + n
added_long before after n t e = ap length e ∙ length-append before (replicate n t) ∙ ap (λ (k : ℕ). length before + k) (length-replicate n t)

pub pushed_if : {T A E : Type 0} (r : Result A E) (old new : List T) (x : T) → new ≡ cond (is_ok r) (old ++ x ∷ []) old → is_err r ≡ false → new ≡ old ++ x ∷ []
pushed_if (Ok y) old new x e h = e
pushed_if (Err y) old new x e h = absurd (cc h)

pub split_at : (xs : List ℕ) (i : ℕ) → i < length xs → drop i xs ≡ get_or xs i 0 ∷ drop (i + 1) xs
split_at xs i h = let e : suc i ≡ i + 1 = omega arith in drop-cons xs i 0 h ∙ ap (λ (k : ℕ). get_or xs i 0 ∷ drop k xs) e
