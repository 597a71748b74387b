-- What types say that name no function type.
use Rattle.std.proofs.Common.{◌≡◌, ℕ, ◌+◌, Bool, false, List, [], ◌∷◌, ◌++◌, Result, OnOk, sym, ◌∙◌, ap, append_assoc, subst, true≢false}
use Rattle.std.proofs.lemmas.List.{append-nil}
use Rattle.std.proofs.lemmas.Result.{on_ok_weaker}
use Rattle.wasm_types.specs.FunctionParts.{heap_of}
use Rattle.wasm_types.specs.Matching.{is_concrete}
use Rattle.wasm_types.specs.Signatures.{Signature}
use Rattle.wasm_types.specs.declared.value_types.HeapType.{HeapType}
use Rattle.wasm_types.specs.declared.value_types.HeapType.TheVariants as h
use Rattle.wasm_types.specs.declared.value_types.RefType.{RefType}
use Rattle.wasm_types.specs.declared.value_types.ValType.{ValType}
use Rattle.wasm_types.specs.declared.value_types.ValType.TheVariants as v
use Rattle.binary_index.specs.Keys.{IsHeapPlaced, Says, bit, heap_key, is_named, one}

pub plain_placed : (ts : List Signature) (t : HeapType) → is_concrete t ≡ false → IsHeapPlaced ts (heap_of t)
plain_placed ts (h.ConcreteFunc t) e = absurd (true≢false e)
plain_placed ts _ e = tt

plain_said : (ts : List Signature) (r : RefType) (old mid new : List ℕ) → is_concrete r.heap_type ≡ false → mid ≡ old ++ (6 + bit r.nullable) ∷ [] → new ≡ mid ++ heap_key ts (heap_of r.heap_type) → Says ts (one (v.Ref r)) old new
plain_said ts r old mid new plain first rest = (
  rest
      ∙ ap (λ (l : List ℕ). l ++ heap_key ts (heap_of r.heap_type)) first
      ∙ append_assoc old ((6 + bit r.nullable) ∷ []) (heap_key ts (heap_of r.heap_type))
      ∙ ap (λ (l : List ℕ). old ++ (6 + bit r.nullable) ∷ l) (sym (append-nil (heap_key ts (heap_of r.heap_type)))),
  (plain_placed ts r.heap_type plain, tt),
)

pub reference_said : {A B : Type 0} (ts : List Signature) (t : ValType) (r : RefType) (h : HeapType) (b : Bool) (old mid new : List ℕ) (result : Result A B) → t ≡ v.Ref r → h ≡ r.heap_type → b ≡ r.nullable → mid ≡ old ++ (6 + bit b) ∷ [] → is_named t ≡ false → (is_concrete h ≡ false → OnOk result (new ≡ mid ++ heap_key ts (heap_of h))) → OnOk result (Says ts (one t) old new)
reference_said ts t r h b old mid new result is heap null first plain rest =
    let p : is_concrete r.heap_type ≡ false = ap is_named (sym is) ∙ plain in
    on_ok_weaker result
    (λ e. subst (λ (t : ValType). Says ts (one t) old new) (sym is)
    (plain_said ts r old mid new p (first ∙ ap (λ (b : Bool). old ++ (6 + bit b) ∷ []) null) (e ∙ ap (λ (t : HeapType). mid ++ heap_key ts (heap_of t)) heap)))
    (rest (ap is_concrete heap ∙ p))
