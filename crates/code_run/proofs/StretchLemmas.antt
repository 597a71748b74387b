-- The values of a thread while they are lent.
use Rattle.std.proofs.Common.{◌≡◌, ℕ, ◌+◌, ◌-◌, ◌≤◌, List, ◌++◌, length, take, drop, sym, ap, ◌∙◌, arith}
use Rattle.std.proofs.lemmas.List.{reverse-append, reverse-reverse, length-reverse}
use Rattle.std.proofs.Math.Seq.{take-append_seam}
use Rattle.std.specs.Prelude.{reverse, map}
use Rattle.wasm_objects.specs.declared.raw.RawVal.{RawVal}
use Rattle.spec_execution.specs.Outcomes.{World}
use Rattle.code_stack.specs.Cuts.{RowParts}
use Rattle.code_stack.specs.Values.{below, ValuesParts, values_parts, two_rows}
use Rattle.code_stack.proofs.CutLemmas.{reverse_rest}
use Rattle.code_straight.specs.Frames.{topmost}
use Rattle.wasm_syntax.specs.declared.instr.Instr.{Instr}
use Rattle.code_stack.specs.Layers.{Configuration, means}
use Rattle.code_leaps.specs.Leaps.{placed}
use Rattle.code_run.specs.Steps.{seen}
use Rattle.code_stack.specs.declared.layers.Activation.{Activation}
use Rattle.code_stack.specs.declared.layers.Layer.{Layer}
use Rattle.code_run.specs.declared.thread.Thread.{Thread}

-- with room below them the topmost operands are the same
topmost_filled : (spare ops : List RawVal) → topmost (length ops) (reverse (spare ++ ops)) ≡ ops
topmost_filled spare ops =
    ap (λ xs. reverse (take (length ops) xs)) (reverse-append spare ops)
    ∙ ap (λ n. reverse (take n (reverse ops ++ reverse spare))) (sym (length-reverse ops))
    ∙ ap reverse (take-append_seam (reverse ops) (reverse spare))
    ∙ reverse-reverse ops

-- the lowest of operands whose topmost is first
lowest : (h : ℕ) (xs : List RawVal) → h ≤ length xs → drop (length (reverse xs) - h) (reverse xs) ≡ topmost h xs
lowest h xs le =
    let n = length xs - h in
    ap (λ k. drop (k - h) (reverse xs)) (length-reverse xs)
    ∙ sym (reverse_rest n xs (omega arith))
    ∙ ap (λ k. reverse (take k xs)) (omega (arith, le))

module _ (old : Thread) (filled : ValuesParts) (spare : List RawVal)
    (is_filled : filled ≡ values_parts (spare ++ old.values.operands) old.values.locals old.values.below 0)
    (operands locals : RowParts) (operands_are : operands.last ≡ reverse filled.operands)
    (locals_are : locals.last ≡ filled.locals)
    (below_is : below (map reverse operands.before) locals.before ≡ filled.below) (own : List RawVal)
    (own_is : own ≡ locals.last) where
  lent_top : (height : ℕ) → height ≡ length old.values.operands → topmost height operands.last ≡ old.values.operands
  lent_top height e =
      ap (λ k. topmost k operands.last) e
      ∙ ap (topmost (length old.values.operands)) (operands_are ∙ ap (λ (v : ValuesParts). reverse v.operands) is_filled)
      ∙ topmost_filled spare old.values.operands

  lent_own : own ≡ old.values.locals
  lent_own = own_is ∙ locals_are ∙ ap (λ (v : ValuesParts). v.locals) is_filled

  lent_below : below (map reverse operands.before) locals.before ≡ old.values.below
  lent_below = below_is ∙ ap (λ (v : ValuesParts). v.below) is_filled

  -- what is done before
  pub lent_means : (height : ℕ) → height ≡ length old.values.operands → (w : World) →
      means (seen old) w ≡ means (placed old.activation old.layers operands locals.before old.code.now height own) w
  lent_means height e w =
      let with : ValuesParts → Configuration = λ v.
      record { activation = old.activation; code = old.code.now; layers = old.layers; values = v } in
      ap (λ ops. means (with (values_parts ops old.values.locals old.values.below 0)) w) (sym (lent_top height e))
      ∙ ap (λ ls. means (with (values_parts (topmost height operands.last) ls old.values.below 0)) w) (sym lent_own)
      ∙ ap (λ b. means (with (values_parts (topmost height operands.last) own b 0)) w) (sym lent_below)

  -- what is done behind, with these left of them
  module _ (operands' own' : RowParts) where
    abbrev back : ValuesParts
    back = two_rows operands' own'

    pub kept_means : (h : ℕ) → h ≤ length operands'.last → (v : ValuesParts) →
        v ≡ values_parts (drop (length back.operands - h) back.operands) back.locals back.below
        (back.room + (length back.operands - h)) →
        (a : Activation) (layers : List Layer) (code : List Instr) (w : World) →
        means (placed a layers operands' own'.before code h own'.last) w
        ≡ means (record { activation = a; code = code; layers = layers; values = v }) w
    kept_means h le v is a layers code w =
        let room = back.room + (length back.operands - h) in
        let with : ValuesParts → Configuration = λ v.
        record { activation = a; code = code; layers = layers; values = v } in
        sym (ap (λ v. means (with v) w) is
        ∙ ap (λ ops. means (with (values_parts ops back.locals back.below room)) w) (lowest h operands'.last le))
