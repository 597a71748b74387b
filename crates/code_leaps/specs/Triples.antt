-- Three instructions of which the third takes what the two before it put on the operands. This project's own.
use Rattle.std.specs.Prelude.{◌≡◌, ℕ, List, ◌∷◌, drop, true}
use Rattle.wasm_syntax.specs.declared.instr.Instr.{Instr}
use Rattle.wasm_objects.specs.declared.raw.RawVal.{RawVal}
use Rattle.spec_machine.specs.Machine.{Machine}
use Rattle.spec_execution.specs.Straight.{Goes, act}
use Rattle.code_leaps.specs.Bursts.{is_frequent}

-- an instruction puts a value on the operands, whatever they are, and changes nothing else
abbrev pub Puts : Instr → List RawVal → RawVal → Type 0
Puts j locals v = (instance : ℕ) (m : Machine) (ops : List RawVal) → act instance m locals j ops ≡ Goes m locals (v ∷ ops)

-- an instruction makes one of two values on the operands, and changes nothing else
abbrev pub Operates : Instr → RawVal → RawVal → RawVal → Type 0
Operates j x y v = (instance : ℕ) (m : Machine) (locals ops : List RawVal) →
    act instance m locals j (y ∷ x ∷ ops) ≡ Goes m locals (v ∷ ops)

-- what the first three instructions of code put on the operands
pub record Triple (code : List Instr) (locals : List RawVal) (v : RawVal) : Type 0 where
  pub first : Instr
  pub second : Instr
  pub third : Instr
  pub x : RawVal
  pub y : RawVal
  pub code_is : code ≡ first ∷ second ∷ third ∷ drop 3 code
  pub first_frequent : is_frequent first ≡ true
  pub second_frequent : is_frequent second ≡ true
  pub third_frequent : is_frequent third ≡ true
  pub first_puts : Puts first locals x
  pub second_puts : Puts second locals y
  pub third_operates : Operates third x y v
