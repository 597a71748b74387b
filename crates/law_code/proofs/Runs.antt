-- All code of valid modules ends as its typing says.
use Rattle.std.proofs.Common.{ℕ, zero, suc, List, [], ◌∷◌}
use Rattle.wasm_types.specs.FunctionParts.{params, results}
use Rattle.wasm_types.specs.Signatures.{Signature}
use Rattle.wasm_types.specs.declared.value_types.ValType.{ValType}
use Rattle.wasm_syntax.specs.Typing.{onto, type_list, typing_to}
use Rattle.wasm_syntax.specs.declared.declarations.Block.{Block}
use Rattle.wasm_syntax.specs.declared.instr.Instr.{Instr}
use Rattle.spec_execution.specs.Bodies.{iterate, at_once, list, step, unfolded, exec}
use Rattle.spec_execution.specs.Entering.{Frame, Exec}
use Rattle.spec_execution.specs.Outcomes.{World, State, Stopped}
use Rattle.law_code.specs.Good.{CodeMayRun, context_of}
use Rattle.law_code.specs.Runs.{AsTyped, GoodIn, IsBlock, IsFilled, IsSoundExec}
use Rattle.law_code.proofs.Blocks.{iterate_good}
use Rattle.law_code.proofs.Ends.{end_as_typed}
use Rattle.law_code.proofs.HostFunctionLemmas.{step_good}
use Rattle.law_code.proofs.Instructions.{instruction_good}

module _ (f : Exec) (sound : IsSoundExec f) where
  list_good : (base : World) (fr : Frame) (labels : List (List ValType)) (n : ℕ) (ts : List ValType)
      (is : List Instr) (s : State) → CodeMayRun s.world fr → GoodIn base fr ts s →
      AsTyped base fr labels (typing_to (context_of fr) n labels ts is) (list f fr is s)
  list_good base fr labels zero ts is s home g = tt
  list_good base fr labels (suc n) ts [] s home g = g
  list_good base fr labels (suc n) ts (j ∷ is) s home g =
      instruction_good f sound base fr labels n is ts s j home g

  -- a list whose first instruction is run at once
  once_good : (base : World) (fr : Frame) (labels : List (List ValType)) (n : ℕ) (ts : List ValType)
      (is : List Instr) (s : State) → IsFilled is → CodeMayRun s.world fr → GoodIn base fr ts s →
      AsTyped base fr labels (typing_to (context_of fr) n labels ts is) (at_once f fr is s)
  once_good base fr labels zero ts is s filled home g = tt
  once_good base fr labels (suc n) ts [] s filled home g = absurd filled
  once_good base fr labels (suc n) ts (j ∷ is) s filled home g =
      instruction_good f sound base fr labels n is ts s j home g

  again_good : (base : World) (fr : Frame) (labels : List (List ValType)) (n b : ℕ) (t : Signature)
      (rest : List ValType) (is : List Instr) (s : State)
      (body : IsBlock fr (typing_to (context_of fr) n) labels (params t) b t) → IsFilled body.block.instrs →
      CodeMayRun s.world fr → GoodIn base fr (onto (params t) rest) s →
      AsTyped base fr labels
      (type_list (context_of fr) (typing_to (context_of fr) n) labels (onto (results t) rest) is)
      (iterate f fr b is s (λ (x : Block). at_once f fr x.instrs))
  again_good base fr labels n b t rest is s body filled home g =
      iterate_good f sound base fr labels n is b t body rest s (λ (x : Block). at_once f fr x.instrs) home g
      (λ mid u hu gu.
      once_good mid fr (params t ∷ labels) n (onto (params t) []) body.block.instrs u filled hu gu)
      (λ u at e. filled)

  step_sound : IsSoundExec (step f)
  unfolding step
  step_sound = record {
    runs = list_good;
    empty = λ fr s. tt;
    loops = again_good;
    steps = λ base a event s g. step_good base f sound a event s.world g;
  }

pub unfolded_sound : (n : ℕ) → IsSoundExec (unfolded n)
unfolding unfolded
unfolded_sound zero = record {
  runs = λ base fr labels n ts is s home g.
      end_as_typed base (context_of fr).locals (context_of fr).results labels
      (typing_to (context_of fr) n labels ts is) Stopped s.world g.world;
  empty = λ fr s. tt;
  loops = λ base fr labels n b t rest is s body filled home g.
      end_as_typed base (context_of fr).locals (context_of fr).results labels
      (type_list (context_of fr) (typing_to (context_of fr) n) labels (onto (results t) rest) is) Stopped s.world
      g.world;
  steps = λ base a event s g. g;
}
unfolded_sound (suc n) = step_sound (unfolded n) (unfolded_sound n)

pub exec_sound : IsSoundExec exec
unfolding exec
exec_sound = record {
  runs = λ base fr labels n ts is s home g.
      (unfolded_sound (suc s.world.turns)).runs base fr labels n ts is s home g;
  empty = λ fr s. (unfolded_sound (suc s.world.turns)).empty fr s;
  loops = λ base fr labels n b t rest is s body filled home g.
      (unfolded_sound (suc s.world.turns)).loops base fr labels n b t rest is s body filled home g;
  steps = λ base a event s g. (unfolded_sound (suc s.world.turns)).steps base a event s g;
}
