-- Steps of a walk over a list, and of the walk over code.
use Rattle.std.proofs.Common.{◌≡◌, ◌≢◌, ◌∙◌, sym, ap, subst, ℕ, zero, suc, ◌-◌, Bool, true, false, ◌&&◌, List, [], ◌∷◌, ◌++◌, length, reverse, refl, arith}
use Rattle.std.specs.Prelude.{◌==◌, nat_eq, Result, IfOk, Option, Some, None, is_some, slice_get}
use Rattle.std.proofs.Math.Dec.{eqb-suc-zero}
use Rattle.std.proofs.lemmas.Bool.{ne_eqb}
use Rattle.std.proofs.lemmas.List.{reverse-append}
use Rattle.wasm_types.specs.Signatures.{Signature}
use Rattle.wasm_types.proofs.MatchingLemmas.{val_reflexive}
use Rattle.wasm_types.specs.Matching.{all_match, val_matches}
use Rattle.wasm_types.specs.declared.faults.OutOfMemory.{OutOfMemory}
use Rattle.wasm_types.specs.declared.value_types.ValType.{ValType}
use Rattle.wasm_syntax.specs.Contexts.{Context, context}
use Rattle.wasm_syntax.specs.declared.declarations.Block.{Block}
use Rattle.wasm_syntax.specs.declared.declarations.FuncDecl.{FuncDecl}
use Rattle.wasm_syntax.specs.declared.declarations.ModuleDecl.{ModuleDecl}
use Rattle.wasm_syntax.specs.declared.instr.Instr.{Instr}
use Rattle.wasm_syntax.specs.Typing.{Typed, Reached, IllTyped, Inner, given, want, want_all, want_from_top, want_labels, on_block, type_one, type_list, typing_to, typed_then, ends_in}
use Rattle.module_typing.specs.Code.{in_code}
use Rattle.module_typing.specs.Operands.{type_in, types_in, type_or_number}
use Rattle.module_typing.specs.declared.code.Code.{Code}
use Rattle.module_typing.specs.declared.operand.Operand.{Operand}
use Rattle.module_typing.specs.declared.operand.Operand.TheVariants as operand
use Rattle.module_typing.specs.declared.reach.Reach.{Reach}
use Rattle.module_typing.specs.Answers.{typed_as, want_label, both_branches, behind_condition}

-- the first label of a branch table, and the others
pub first_label :
    (labels : List (List ValType)) (n : ℕ) (rest tail : List ℕ) (target : ℕ) (ts : List ValType) (b : Bool) →
    rest ≡ target ∷ tail → ((next : Typed) → want_label labels n target ts next ≡ given b next) →
    want_labels labels n rest ts ≡ given b (want_labels labels n tail ts)
first_label labels n rest tail target ts b e h = rw e (h (want_labels labels n tail ts))

-- the last of the types that are wanted, and the others; and none of them
pub last_wanted :
    (rest front : List ValType) (last : ValType) (ts us : List ValType) (b : Bool) → rest ≡ front ++ last ∷ [] →
    ((go : List ValType → Typed) → want last ts go ≡ given b (go us)) →
    (go : List ValType → Typed) → want_all rest ts go ≡ given b (want_all front us go)
last_wanted rest front last ts us b e h go =
    ap (λ (xs : List ValType). want_all xs ts go) e
    ∙ ap (λ (xs : List ValType). want_from_top xs ts go) (reverse-append front (last ∷ []))
    ∙ h (λ vs. want_all front vs go)

pub none_wanted : (rest ts : List ValType) (go : List ValType → Typed) → length rest ≡ 0 → want_all rest ts go ≡ go ts
none_wanted [] ts go e = refl
none_wanted (t ∷ rest) ts go e = Prim.absurd (omega arith)

-- an operand that was read from a local has the local's type
pub own_fits :
    (c : Code) (o : Operand) (own index : ℕ) (ty : ValType) → o ≡ operand.Local own → own ≡ index →
    slice_get (in_code c).locals index ≡ Some ty → true ≡ val_matches (type_in c o) ty
own_fits c o own index ty e same there =
    let p : type_in c o ≡ ty =
    ap (type_in c) e ∙ ap (λ (n : ℕ). type_or_number (slice_get (in_code c).locals n)) same ∙ ap type_or_number there in
    sym (ap (λ (t : ValType). val_matches t ty) p ∙ val_reflexive ty)

-- the operands that a slice has are seen from its end
module _ (c : Code) where
  top_seen : (left below : List Operand) (top : Operand) → left ≡ below ++ top ∷ [] →
      types_in c (reverse left) ≡ type_in c top ∷ types_in c (reverse below)
  unfolding types_in
  top_seen left below top e =
      ap (λ (os : List Operand). types_in c (reverse os)) e
      ∙ ap (λ (os : List Operand). types_in c os) (reverse-append below (top ∷ []))

  pub top_wanted :
      (rest front : List ValType) (last : ValType) (left below : List Operand) (top : Operand) (b : Bool) →
      rest ≡ front ++ last ∷ [] → left ≡ below ++ top ∷ [] → b ≡ val_matches (type_in c top) last →
      (go : List ValType → Typed) → want_all rest (types_in c (reverse left)) go ≡ given b (want_all front (types_in c (reverse below)) go)
  top_wanted rest front last left below top b e f h go =
      ap (λ (ts : List ValType). want_all rest ts go) (top_seen left below top f)
      ∙ last_wanted rest front last (type_in c top ∷ types_in c (reverse below)) (types_in c (reverse below)) b e
      (λ next. ap (λ (x : Bool). given x (next (types_in c (reverse below)))) (sym h)) go

  pub no_operand :
      (rest front : List ValType) (last : ValType) (left : List Operand) → rest ≡ front ++ last ∷ [] → length left ≡ 0 →
      (go : List ValType → Typed) → want_all rest (types_in c (reverse left)) go ≡ IllTyped
  unfolding types_in
  no_operand rest front last [] e n go = last_wanted rest front last [] [] false e (λ next. refl) go
  no_operand rest front last (top ∷ left) e n go = Prim.absurd (omega arith)

  pub top_matches :
      (rest front : List ValType) (last : ValType) (left below : List Operand) (top : Operand) (b : Bool) →
      rest ≡ front ++ last ∷ [] → left ≡ below ++ top ∷ [] → b ≡ val_matches (type_in c top) last →
      all_match (types_in c (reverse left)) (reverse rest) ≡ (b && all_match (types_in c (reverse below)) (reverse front))
  top_matches rest front last left below top b e f h =
      ap (λ (ts : List ValType). all_match ts (reverse rest)) (top_seen left below top f)
      ∙ ap (λ (xs : List ValType). all_match (type_in c top ∷ types_in c (reverse below)) (reverse xs)) e
      ∙ ap (λ (xs : List ValType). all_match (type_in c top ∷ types_in c (reverse below)) xs) (reverse-append front (last ∷ []))
      ∙ ap (λ (x : Bool). x && all_match (types_in c (reverse below)) (reverse front)) (sym h)

  pub none_matches :
      (rest front : List ValType) (last : ValType) (left : List Operand) → rest ≡ front ++ last ∷ [] → length left ≡ 0 →
      all_match (types_in c (reverse left)) (reverse rest) ≡ false
  unfolding types_in
  none_matches rest front last [] e n =
      ap (λ (xs : List ValType). all_match [] (reverse xs)) e
      ∙ ap (λ (xs : List ValType). all_match [] xs) (reverse-append front (last ∷ []))
  none_matches rest front last (top ∷ left) e n = Prim.absurd (omega arith)

-- when no result is left, the operands are these where none is left
module _ (c : Code) where
  none_more : (os : List Operand) (o : Operand) → all_match (types_in c (os ++ o ∷ [])) [] ≡ false
  unfolding types_in
  none_more [] o = refl
  none_more (u ∷ os) o = refl

  pub all_out : (os : List Operand) (rest : List ValType) → length rest ≡ 0 →
      all_match (types_in c (reverse os)) (reverse rest) ≡ (length os == 0)
  unfolding types_in
  all_out [] [] e = refl
  all_out (o ∷ os) [] e = rw (reverse-append (o ∷ []) os) (none_more (reverse os) o ∙ sym (eqb-suc-zero (length os)))
  all_out os (u ∷ rest) e = Prim.absurd (omega arith)

-- code that may be nested at all is a list of instructions whose inner code may be nested once less
pub typing_to-nested :
    (r : Result Reach OutOfMemory) (c : Context) (d : ℕ) (labels : List (List ValType)) (ts us : List ValType) (is : List Instr) →
    d ≢ 0 → IfOk r (λ reach. type_list c (typing_to c (d - 1)) labels ts is ≡ typed_as reach us) →
    IfOk r (λ reach. typing_to c d labels ts is ≡ typed_as reach us)
typing_to-nested r c zero labels ts us is h k = Prim.absurd (h refl)
typing_to-nested r c (suc n) labels ts us is h k =
    let e : suc n - 1 ≡ n = omega arith in
    subst (λ (m : ℕ). IfOk r (λ reach. type_list c (typing_to c m) labels ts is ≡ typed_as reach us)) e k

-- the first instruction of a list, where its end is reached
pub first_instr :
    (c : Context) (inner : Inner) (labels : List (List ValType)) (ts us : List ValType) (rest tail : List Instr) (i : Instr) →
    rest ≡ i ∷ tail → type_one c inner labels i ts ≡ Reached us →
    type_list c inner labels ts rest ≡ type_list c inner labels us tail
first_instr c inner labels ts us rest tail i e h =
    ap (λ (is : List Instr). type_list c inner labels ts is) e
    ∙ ap (λ (t : Typed). typed_then t (λ vs. type_list c inner labels vs tail)) h

-- an `if` whose first block is there, and whose second is not, or is of another type
pub no_other :
    (c : Context) (inner : Inner) (labels : List (List ValType)) (a b : ℕ) (us : List ValType) (block : Block) (t : Signature) →
    ((go : Block → Signature → Typed) → on_block c a go ≡ go block t) → ((go : Block → Signature → Typed) → on_block c b go ≡ IllTyped) →
    behind_condition c inner labels a b us ≡ IllTyped
no_other c inner labels a b us block t h k =
    h (λ x y. on_block c b (λ other u. given (nat_eq x.ty other.ty) (both_branches c inner labels x other y us)))
    ∙ k (λ other u. given (nat_eq block.ty other.ty) (both_branches c inner labels block other t us))

pub unlike_other :
    (c : Context) (inner : Inner) (labels : List (List ValType)) (a b : ℕ) (us : List ValType) (block other : Block) (t u : Signature) →
    ((go : Block → Signature → Typed) → on_block c a go ≡ go block t) →
    ((go : Block → Signature → Typed) → on_block c b go ≡ go other u) →
    block.ty ≢ other.ty → behind_condition c inner labels a b us ≡ IllTyped
unlike_other c inner labels a b us block other t u h k e =
    h (λ x y. on_block c b (λ o v. given (nat_eq x.ty o.ty) (both_branches c inner labels x o y us)))
    ∙ k (λ o v. given (nat_eq block.ty o.ty) (both_branches c inner labels block o t us))
    ∙ ap (λ (same : Bool). given same (both_branches c inner labels block other t us)) (ne_eqb block.ty other.ty e)

-- what a body is, nested at most n deep
abbrev pub fits_to : ℕ → Context → Option Block → Bool
fits_to n c None = false
fits_to n c (Some body) = ends_in c.results (typing_to c n (c.results ∷ []) [] body.instrs)

pub body_fits_to :
    (r : Result (Option ℕ) OutOfMemory) (n : ℕ) (d e : ModuleDecl) (f g : FuncDecl) (body : Block) →
    d ≡ e → f ≡ g → Some body ≡ slice_get f.blocks 0 →
    IfOk r (λ height. is_some height ≡ fits_to n (context d f) (Some body)) → IfOk r (λ height. is_some height ≡ fits_to n (context e g) (slice_get g.blocks 0))
body_fits_to r n d e f g body p q there k =
    let k1 = subst (λ (o : Option Block). IfOk r (λ height. is_some height ≡ fits_to n (context d f) o)) there k in
    let k2 = subst (λ (x : ModuleDecl). IfOk r (λ height. is_some height ≡ fits_to n (context x f) (slice_get f.blocks 0))) p k1 in
    subst (λ (y : FuncDecl). IfOk r (λ height. is_some height ≡ fits_to n (context e y) (slice_get y.blocks 0))) q k2
