-- Operands that were taken from the top, or that are not there.
use Rattle.std.proofs.Common.{◌≡◌, ℕ, List, [], ◌∷◌, refl, ap, ◌∙◌}
use Rattle.wasm_objects.specs.declared.raw.RawRef.{RawRef}
use Rattle.wasm_objects.specs.declared.raw.RawVal.{RawVal}
use Rattle.wasm_objects.specs.declared.raw.RawVal.TheVariants as w
use Rattle.spec_execution.specs.Operands as on
use Rattle.code_stack.specs.Reading.{LacksI32, LacksI64, LacksReference, TakesI32, TakesI64}

module _ {O : Type 0} (u : O) where
  pub lacks_value : (ops : List RawVal) (go : RawVal → List RawVal → O) → ops ≡ [] → on.on_value u ops go ≡ u
  lacks_value ops go e = ap (λ l. on.on_value u l go) e

  pub takes_value : (ops : List RawVal) (v : RawVal) (rest : List RawVal) (go : RawVal → List RawVal → O) →
      ops ≡ v ∷ rest → on.on_value u ops go ≡ go v rest
  takes_value ops v rest go e = ap (λ l. on.on_value u l go) e

  pub lacks_i32 : (ops : List RawVal) (go : ℕ → List RawVal → O) → LacksI32 ops → on.on_i32 u ops go ≡ u
  lacks_i32 [] go none = refl
  lacks_i32 (w.I32 z ∷ rest) go none = absurd none
  lacks_i32 (w.I64 z ∷ rest) go none = refl
  lacks_i32 (w.F32 z ∷ rest) go none = refl
  lacks_i32 (w.F64 z ∷ rest) go none = refl
  lacks_i32 (w.V128 z ∷ rest) go none = refl
  lacks_i32 (w.Reference z ∷ rest) go none = refl

  pub takes_i32 : (ops : List RawVal) (x : ℕ) (rest : List RawVal) (go : ℕ → List RawVal → O) →
      TakesI32 ops x rest → on.on_i32 u ops go ≡ go x rest
  takes_i32 ops x rest go t = ap (λ l. on.on_i32 u l go) t.1 ∙ ap (λ n. go n rest) t.2

  pub lacks_i64 : (ops : List RawVal) (go : ℕ → List RawVal → O) → LacksI64 ops → on.on_integer u 64 ops go ≡ u
  lacks_i64 [] go none = refl
  lacks_i64 (w.I32 z ∷ rest) go none = refl
  lacks_i64 (w.I64 z ∷ rest) go none = absurd none
  lacks_i64 (w.F32 z ∷ rest) go none = refl
  lacks_i64 (w.F64 z ∷ rest) go none = refl
  lacks_i64 (w.V128 z ∷ rest) go none = refl
  lacks_i64 (w.Reference z ∷ rest) go none = refl

  pub takes_i64 : (ops : List RawVal) (x : ℕ) (rest : List RawVal) (go : ℕ → List RawVal → O) →
      TakesI64 ops x rest → on.on_integer u 64 ops go ≡ go x rest
  takes_i64 ops x rest go t = ap (λ l. on.on_integer u 64 l go) t.1 ∙ ap (λ n. go n rest) t.2

  pub lacks_reference : (ops : List RawVal) (go : RawRef → List RawVal → O) → LacksReference ops →
      on.on_reference u ops go ≡ u
  lacks_reference [] go none = refl
  lacks_reference (w.I32 z ∷ rest) go none = refl
  lacks_reference (w.I64 z ∷ rest) go none = refl
  lacks_reference (w.F32 z ∷ rest) go none = refl
  lacks_reference (w.F64 z ∷ rest) go none = refl
  lacks_reference (w.V128 z ∷ rest) go none = refl
  lacks_reference (w.Reference z ∷ rest) go none = absurd none

  pub takes_reference : (ops : List RawVal) (r : RawRef) (rest : List RawVal) (go : RawRef → List RawVal → O) →
      ops ≡ w.Reference r ∷ rest → on.on_reference u ops go ≡ go r rest
  takes_reference ops r rest go e = ap (λ l. on.on_reference u l go) e
