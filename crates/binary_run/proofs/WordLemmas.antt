-- The words of arguments, one after another.
use Rattle.std.proofs.Common.{◌≡◌, ℕ, ◌-◌, ◌≤◌, List, [], ◌∷◌, ◌++◌, length, map, take, drop, get_or, Option, Some, None, refl, ap, sym, ◌∙◌, append_assoc, arith}
use Rattle.std.specs.Prelude.{option_map}
use Rattle.std.proofs.lemmas.List.{take_all}
use Rattle.wasm_types.specs.declared.value_types.ValType.{ValType}
use Rattle.spec_machine.specs.Names.{with_first}
use Rattle.spec_machine.specs.declared.name.Operand.{Operand}
use Rattle.binary_run.specs.Calls.{argument, arguments}

-- what is behind the first of a list
pub behind_first : {A : Type 0} (x : A) (xs : List A) → take (length (x ∷ xs) - 1) (drop 1 (x ∷ xs)) ≡ xs
behind_first x xs = take_all (length (x ∷ xs) - 1) xs (omega arith)

-- operands before one more, and those behind it
one_more : (done : List Operand) (operand : Operand) (rest : Option (List Operand)) →
    option_map (λ xs. done ++ xs) (with_first (Some operand) rest)
    ≡ option_map (λ xs. (done ++ operand ∷ []) ++ xs) rest
one_more done operand None = refl
one_more done operand (Some xs) = ap Some (sym (append_assoc done (operand ∷ []) xs))

-- one argument was read
pub next_argument : {W : Type 0} (bytes : W → List ℕ) (all : Option (List Operand)) (done more : List Operand)
    (operand : Operand) (types : List ValType) (ty : ValType) (words : List W) (word : W) → 1 ≤ length types →
    1 ≤ length words → ty ≡ get_or types 0 ty → word ≡ get_or words 0 word → Some operand ≡ argument ty (bytes word) →
    more ≡ done ++ operand ∷ [] →
    all ≡ option_map (λ xs. done ++ xs) (arguments types (map bytes words)) →
    all
    ≡ option_map (λ xs. more ++ xs)
    (arguments (take (length types - 1) (drop 1 types)) (map bytes (take (length words - 1) (drop 1 words))))
next_argument bytes all done more operand [] ty words word t w first second is_operand appended so_far =
    absurd (omega (arith, t))
next_argument bytes all done more operand (t ∷ ts) ty [] word t1 w first second is_operand appended so_far =
    absurd (omega (arith, w))
next_argument bytes all done more operand (t ∷ ts) ty (v ∷ vs) word t1 w first second is_operand appended so_far =
    rw (behind_first t ts, behind_first v vs, appended)
    (so_far
    ∙ ap (λ o. option_map (λ xs. done ++ xs) (with_first o (arguments ts (map bytes vs))))
    (ap (λ x. argument x (bytes v)) (sym first) ∙ ap (λ x. argument ty (bytes x)) (sym second) ∙ sym is_operand)
    ∙ one_more done operand (arguments ts (map bytes vs)))
