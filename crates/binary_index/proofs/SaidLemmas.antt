-- A key that was made from left to right says what its parts say.
use Rattle.std.proofs.Common.{◌≡◌, ℕ, ◌+◌, List, [], ◌∷◌, ◌++◌, refl, sym, ◌∙◌, ap, append_assoc, subst}
use Rattle.std.proofs.lemmas.List.{append-nil}
use Rattle.wasm_types.specs.Equality.{of_finality}
use Rattle.wasm_types.specs.FunctionParts.{heap_of, types_of, with_type}
use Rattle.wasm_types.specs.Signatures.{Signature, Supertype, Types}
use Rattle.wasm_types.specs.Signatures as sig
use Rattle.wasm_types.specs.declared.plain.Finality.{Finality}
use Rattle.wasm_types.specs.declared.value_types.ValType.{ValType}
use Rattle.wasm_types.specs.declared.value_types.ValType.TheVariants as v
use Rattle.binary_index.specs.Keys.{ArePlaced, IsKeyOf, Says, SaysHeading, above_key, bit, heap_key, one, types_key}

front_key : (ts : List Signature) (x : ValType) (xs : Types) → types_key ts (with_type x xs) ≡ types_key ts (one x) ++ types_key ts xs
front_key ts (v.Ref r) xs = ap (λ (l : List ℕ). (6 + bit r.nullable) ∷ (l ++ types_key ts xs)) (sym (append-nil (heap_key ts (heap_of r.heap_type))))
front_key ts _ xs = refl

front_placed : (ts : List Signature) (x : ValType) (xs : Types) → ArePlaced ts (one x) → ArePlaced ts xs → ArePlaced ts (with_type x xs)
front_placed ts (v.Ref r) xs p q = (p.0, q)
front_placed ts _ xs p q = q

placed_parts : (ts : List Signature) (x : ValType) (xs : Types) → ArePlaced ts (with_type x xs) → ArePlaced ts (one x) × ArePlaced ts xs
placed_parts ts (v.Ref r) xs p = ((p.0, tt), p.1)
placed_parts ts _ xs p = (tt, p)

last_key : (ts : List Signature) (xs : List ValType) (x : ValType) → types_key ts (types_of (xs ++ x ∷ [])) ≡ types_key ts (types_of xs) ++ types_key ts (one x)
last_key ts [] x = refl
last_key ts (y ∷ ys) x =
    front_key ts y (types_of (ys ++ x ∷ []))
    ∙ ap (λ (l : List ℕ). types_key ts (one y) ++ l) (last_key ts ys x)
    ∙ sym (append_assoc (types_key ts (one y)) (types_key ts (types_of ys)) (types_key ts (one x)))
    ∙ ap (λ (l : List ℕ). l ++ types_key ts (one x)) (sym (front_key ts y (types_of ys)))

last_placed : (ts : List Signature) (xs : List ValType) (x : ValType) → ArePlaced ts (types_of xs) → ArePlaced ts (one x) → ArePlaced ts (types_of (xs ++ x ∷ []))
last_placed ts [] x p q = q
last_placed ts (y ∷ ys) x p q =
    let parts : ArePlaced ts (one y) × ArePlaced ts (types_of ys) = placed_parts ts y (types_of ys) p in
    front_placed ts y (types_of (ys ++ x ∷ [])) parts.0 (last_placed ts ys x parts.1 q)

-- one type more
pub said_more : (ts : List Signature) (xs items : List ValType) (x : ValType) (old mid new : List ℕ) → Says ts (types_of xs) old mid → Says ts (one x) mid new → items ≡ xs ++ x ∷ [] → Says ts (types_of items) old new
said_more ts xs items x old mid new p q e =
    subst (λ (l : List ValType). Says ts (types_of l) old new) (sym e) (
      q.0
          ∙ ap (λ (l : List ℕ). l ++ types_key ts (one x)) p.0
          ∙ append_assoc old (types_key ts (types_of xs)) (types_key ts (one x))
          ∙ ap (λ (l : List ℕ). old ++ l) (sym (last_key ts xs x)),
      last_placed ts xs x p.1 q.1,
    )

pub nothing_said : (ts : List Signature) (key : List ℕ) → Says ts sig.end key key
nothing_said ts key = (sym (append-nil key), tt)

-- a whole type
pub key_said : (ts : List Signature) (t : Signature) (e : ℕ) (f : Finality) (s : Supertype) (ps rs : Types) (none headed taken parted key : List ℕ) → t ≡ sig.signature e f s ps rs → none ≡ [] → SaysHeading ts f s none headed → Says ts ps headed taken → parted ≡ taken ++ 0 ∷ [] → Says ts rs parted key → IsKeyOf ts t key
key_said ts t e f s ps rs none headed taken parted key is begun h p end r =
    subst (λ (u : Signature). IsKeyOf ts u key) (sym is) (
      r.0
          ∙ ap (λ (l : List ℕ). l ++ types_key ts rs) (end
          ∙ ap (λ (l : List ℕ). l ++ 0 ∷ []) (p.0
          ∙ ap (λ (l : List ℕ). l ++ types_key ts ps) (h.0 ∙ ap (λ (l : List ℕ). l ++ of_finality f ∷ above_key ts s) begun)))
          ∙ append_assoc ((of_finality f ∷ above_key ts s) ++ types_key ts ps) (0 ∷ []) (types_key ts rs)
          ∙ append_assoc (of_finality f ∷ above_key ts s) (types_key ts ps) (0 ∷ types_key ts rs),
      (h.1, p.1, r.1),
    )
