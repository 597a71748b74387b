-- What is asked of the code that stands behind a part of a run: it ends as its typing says.
-- WebAssembly core specification, "Soundness", preservation and progress
use Rattle.std.specs.Prelude.{◌≡◌, ℕ, true, List, [], ◌∷◌, slice_get, Some}
use Rattle.wasm_types.specs.FunctionParts.{params, results}
use Rattle.wasm_types.specs.Signatures.{Signature}
use Rattle.wasm_types.specs.declared.value_types.ValType.{ValType}
use Rattle.wasm_syntax.specs.Typing.{Typed, Inner, onto, ends_in, type_list, typing_to}
use Rattle.wasm_syntax.specs.declared.declarations.Block.{Block}
use Rattle.wasm_syntax.specs.declared.instr.Instr.{Instr}
use Rattle.spec_execution.specs.Entering.{Frame, Exec, Run, Again, Step}
use Rattle.spec_execution.specs.Activations.{Activation}
use Rattle.spec_execution.specs.Outcomes.{World, State, Outcome, Branch}
use Rattle.spec_execution.specs.declared.answer.Event.{Event}
use Rattle.law_code.specs.Good.{CodeMayRun, context_of, IsGoodWorld, IsGood, IsAsTyped, IsReturned}

-- an outcome of code in a frame is as the typing says
abbrev pub AsTyped : World → Frame → List (List ValType) → Typed → Outcome → Type 0
AsTyped base fr labels ty o = IsAsTyped base (context_of fr).locals (context_of fr).results labels ty o

abbrev pub GoodIn : World → Frame → List ValType → State → Type 0
GoodIn base fr ts s = IsGood base (context_of fr).locals ts s

-- a block of the frame's function, of this type, whose code under a label ends with the results of the type
pub record IsBlock (fr : Frame) (inner : Inner) (labels : List (List ValType)) (label : List ValType) (b : ℕ)
    (t : Signature) : Type 0 where
  pub block : Block
  pub found : slice_get fr.function.blocks b ≡ Some block
  pub type_is : slice_get fr.decl.types block.ty ≡ Some t
  pub ends : ends_in (results t) (inner (label ∷ labels) (onto (params t) []) block.instrs) ≡ true

-- a list that has a member; an outcome that is no branch
abbrev pub IsFilled : {A : Type 0} → List A → Type 0
IsFilled [] = ⊥
IsFilled (x ∷ xs) = Unit {0}

abbrev pub IsNoBranch : Outcome → Type 0
IsNoBranch (Branch l s) = ⊥
IsNoBranch _ = Unit {0}

-- code of every kind ends as its typing says
pub record IsSoundExec (f : Exec) : Type 0 where
  pub runs : (base : World) (fr : Frame) (labels : List (List ValType)) (n : ℕ) (ts : List ValType) (is : List Instr)
      (s : State) → CodeMayRun s.world fr → GoodIn base fr ts s →
      AsTyped base fr labels (typing_to (context_of fr) n labels ts is) (f (Run fr is) s)
  -- an empty list does not branch, so a loop that is run again has instructions
  pub empty : (fr : Frame) (s : State) → IsNoBranch (f (Run fr []) s)
  pub loops : (base : World) (fr : Frame) (labels : List (List ValType)) (n b : ℕ) (t : Signature)
      (rest : List ValType) (is : List Instr) (s : State)
      (body : IsBlock fr (typing_to (context_of fr) n) labels (params t) b t) → IsFilled body.block.instrs →
      CodeMayRun s.world fr →
      GoodIn base fr (onto (params t) rest) s →
      AsTyped base fr labels
      (type_list (context_of fr) (typing_to (context_of fr) n) labels (onto (results t) rest) is) (f (Again fr b is) s)
  pub steps : (base : World) (a : Activation) (event : Event) (s : State) → IsGoodWorld base s.world →
      IsReturned base a.results (f (Step a event) s)
