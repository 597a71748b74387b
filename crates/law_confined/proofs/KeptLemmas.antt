-- Valid code keeps what a store is to keep: each world in which it ends is later than the one in which it began.
use Rattle.std.proofs.Common.{List, []}
use Rattle.wasm_types.specs.FunctionParts.{results}
use Rattle.wasm_types.specs.declared.value_types.ValType.{ValType}
use Rattle.law_store.specs.Later.{Extends}
use Rattle.spec_execution.specs.Commands.{Finish, Replied, Early}
use Rattle.spec_execution.specs.Outcomes.{World, Outcome, Values, Branch, Return, Over, End, Stuck}
use Rattle.law_code.specs.Good.{IsGoodEnd, IsReturned}
use Rattle.law_code.proofs.Calls.{good_begin, calls_return, instantiations_return}
use Rattle.law_code.proofs.Commands.{IsGoodFinish, command_good}
use Rattle.law_code.proofs.InstantiationLemmas.{instantiated_returns}
use Rattle.law_code.proofs.Runs.{exec_sound}
use Rattle.spec_execution.specs.Bodies.{exec}
use Rattle.law_confined.specs.Kept.{LawK}
use Rattle.law_confined.specs.Laws.{left, left_by}

module _ (base : World) where
  end_later : (e : End) (w : World) → IsGoodEnd base e w → Extends base.machine w.machine
  end_later Stuck w h = absurd h
  end_later e w h = h.later.store

  outcome_later :
      (results : List ValType) (o : Outcome) → IsReturned base results o → Extends base.machine (left o).machine
  outcome_later results (Values s) h = h.world.later.store
  outcome_later results (Branch l s) h = absurd h
  outcome_later results (Return s) h = absurd h
  outcome_later results (Over e w) h = end_later e w h

  finish_later : (o : Finish) → IsGoodFinish base o → Extends base.machine (left_by o).machine
  finish_later (Replied answer w) h = h.later.store
  finish_later (Early e w) h = end_later e w h

pub law_k : LawK
law_k = record {
  calls = λ depth n args caller own w b e h.
      outcome_later w (results own) _ (calls_return w depth n args caller own b e h);
  instantiations = λ depth w d imports b is.
      outcome_later w [] _ (instantiated_returns w _ d _ (instantiations_return w depth d imports b is));
  commands = λ modules s c w b are t.
      finish_later w _ (command_good w exec exec_sound modules s c w t are (good_begin w b));
}
