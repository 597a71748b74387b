-- Three instructions of which the third takes what the two before it put on the operands.
use Rattle.std.proofs.Common.{◌≡◌, ℕ, ℤ, pos, negsuc, w32, of_z, ◌<◌, List, [], ◌∷◌, length, drop, get_or, reverse, refl, sym, ap, ◌∙◌, arith}
use Rattle.std.specs.Prelude.{Ok, Option, Some, None, IfSome}
use Rattle.std.proofs.lemmas.List.{take_all, reverse-reverse, length-reverse}
use Rattle.std.proofs.lemmas.Option.{slice_get-get_or}
use Rattle.wasm_syntax.specs.Operators.{arith as number, binary_width, binary_result_width, signed, unsigned}
use Rattle.wasm_syntax.specs.declared.operators.BinOp.{BinOp}
use Rattle.wasm_syntax.specs.declared.instr.Instr.{Instr}
use Rattle.wasm_syntax.specs.declared.instr.Instr.TheVariants as i
use Rattle.wasm_objects.specs.declared.raw.RawVal.{RawVal}
use Rattle.wasm_objects.specs.declared.raw.RawVal.TheVariants as w
use Rattle.spec_execution.specs.Operands as on
use Rattle.spec_execution.specs.Straight.{Effect, Goes, Sticks, act, result_of}
use Rattle.store_state.specs.Machine.{run_machine}
use Rattle.store_state.specs.Parts.{ProgramParts, HeldParts}
use Rattle.code_arith.specs.Answers.{answer}
use Rattle.code_straight.specs.Frames.{topmost, ActsIn}
use Rattle.code_straight.specs.declared.frames.Framed.TheVariants as framed
use Rattle.code_straight.proofs.OperatorLemmas.{counted}
use Rattle.code_leaps.specs.Triples.{Puts, Operates}

-- the first three of a list, and what is behind them
pub three_of : {A : Type 0} (xs : List A) (d : A) → 2 < length xs →
    xs ≡ get_or xs 0 d ∷ get_or xs 1 d ∷ get_or xs 2 d ∷ drop 3 xs
three_of [] d less = absurd (omega (arith, less))
three_of (a ∷ []) d less = absurd (omega (arith, less))
three_of (a ∷ b ∷ []) d less = absurd (omega (arith, less))
three_of (a ∷ b ∷ c ∷ rest) d less = refl

-- a local puts what it holds
pub local_puts : (locals : List RawVal) (index : ℕ) (d v : RawVal) → index < length locals →
    get_or locals index d ≡ v → Puts (i.LocalGet index) locals v
local_puts locals index d v less is = λ instance m ops.
    ap (λ o. on.found Sticks o (λ v. Goes m locals (v ∷ ops))) (slice_get-get_or locals index d less)
    ∙ ap (λ v. Goes m locals (v ∷ ops)) is

-- an integer of 32 bits without its sign
pub unsigned_is : (z : ℤ) → of_z w32 z ≡ unsigned 32 z
unsigned_is (pos n) = refl
unsigned_is (negsuc n) = omega arith

-- an operator of 32 bits makes what it gives of two integers
pub operates : (op : BinOp) (x y z : ℤ) (n : ℕ) → binary_width op ≡ 32 → binary_result_width op ≡ 32 →
    Ok n ≡ answer (number op (unsigned 32 x) (unsigned 32 y)) → z ≡ signed 32 n →
    Operates (i.Binary op) (w.I32 x) (w.I32 y) (w.I32 z)
operates op x y z n wide gives e is = λ instance m locals ops.
    let go : RawVal → Effect = λ v. Goes m locals (v ∷ ops) in
    ap (λ k. on.on_integer Sticks k (w.I32 y ∷ w.I32 x ∷ ops) (λ y rest1. on.on_integer Sticks k rest1 (λ x rest.
    result_of (λ v. Goes m locals (v ∷ rest)) (binary_result_width op) (number op x y)))) wide
    ∙ counted go (binary_result_width op) (number op (unsigned 32 x) (unsigned 32 y)) n e
    ∙ ap (λ k. go (on.integer k n)) gives
    ∙ ap (λ z. go (w.I32 z)) (sym is)

-- what holds of each value holds of the one that is there
pub some_on : {A : Type 0} (o : Option A) (P Q : A → Type 0) → ((a : A) → P a → Q a) → IfSome o P → IfSome o Q
some_on None P Q on h = tt
some_on (Some a) P Q on h = on a h

-- operands alone in a slice that holds no more
pub alone : (ops : List RawVal) → topmost (length ops) (reverse ops) ≡ ops
alone ops = ap reverse (take_all (length ops) (reverse ops) (omega (arith, length-reverse ops))) ∙ reverse-reverse ops

-- each of the three, as it acts in a store, with the operands between them in slices of their own
module _ (program : ProgramParts) (instance : ℕ) (held : HeldParts) (locals : List RawVal) where
  abbrev pub ActsOn : Instr → ℕ → List RawVal → ℕ → List RawVal → Type 0
  ActsOn j height operands height' operands' =
      ActsIn j program instance held height operands locals (framed.Goes height') held operands' locals

  pub puts_alone : (j : Instr) (v : RawVal) → Puts j locals v → (height : ℕ) (operands : List RawVal) →
      ActsOn j height operands (length (v ∷ topmost height operands)) (reverse (v ∷ topmost height operands))
  puts_alone j v puts height operands = λ base.
      let m = run_machine base program held in
      puts instance m (topmost height operands) ∙ ap (Goes m locals) (sym (alone (v ∷ topmost height operands)))

  pub operates_alone : (j : Instr) (x y v : RawVal) → Operates j x y v → (ops : List RawVal) (height : ℕ)
      (operands : List RawVal) → topmost height operands ≡ y ∷ x ∷ ops → (height' : ℕ) (operands' : List RawVal) →
      topmost height' operands' ≡ v ∷ ops → ActsOn j height operands height' operands'
  operates_alone j x y v does ops height operands e height' operands' e' = λ base.
      let m = run_machine base program held in
      ap (λ l. act instance m locals j l) e ∙ does instance m locals ops ∙ ap (Goes m locals) (sym e')
