-- An operand that is an integer of 32 bits, or is none.
use Rattle.std.proofs.Common.{◌≡◌, ℕ, List, [], ◌∷◌, refl, ap, ◌∙◌}
use Rattle.wasm_objects.specs.declared.raw.RawVal.{RawVal}
use Rattle.wasm_objects.specs.declared.raw.RawVal.TheVariants as v
use Rattle.spec_execution.specs.Operands as on
use Rattle.code_stack.specs.Reading.{LacksI32, TakesI32}

pub i32_lacks : {O : Type 0} (u : O) (ops : List RawVal) (go : ℕ → List RawVal → O) → LacksI32 ops → on.on_i32 u ops
    go ≡ u
i32_lacks u [] go h = refl
i32_lacks u (v.I32 z ∷ rest) go h = absurd h
i32_lacks u (v.I64 z ∷ rest) go h = refl
i32_lacks u (v.F32 z ∷ rest) go h = refl
i32_lacks u (v.F64 z ∷ rest) go h = refl
i32_lacks u (v.V128 z ∷ rest) go h = refl
i32_lacks u (v.Reference z ∷ rest) go h = refl

pub i32_takes : {O : Type 0} (u : O) (ops : List RawVal) (x : ℕ) (rest : List RawVal) (go : ℕ → List RawVal → O) →
    TakesI32 ops x rest → on.on_i32 u ops go ≡ go x rest
i32_takes u ops x rest go h = ap (λ ops. on.on_i32 u ops go) h.1 ∙ ap (λ k. go k rest) h.2
