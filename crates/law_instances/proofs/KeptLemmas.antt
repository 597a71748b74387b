-- What a call and an instantiation leave keeps every object.
use Rattle.std.proofs.Common.{List}
use Rattle.wasm_types.specs.declared.value_types.ValType.{ValType}
use Rattle.law_store.specs.Laws.{KeepsObjects}
use Rattle.law_store.proofs.Objects.{keeps_objects}
use Rattle.spec_execution.specs.Bodies.{exec}
use Rattle.spec_execution.specs.Instantiation.{instantiate}
use Rattle.spec_execution.specs.Outcomes.{World, Outcome, Values, Branch, Return, Over, End, Trapped, Refused, Stopped, Waiting, Exhausted, Stuck}
use Rattle.spec_execution.specs.Runs.{outermost_call}
use Rattle.law_code.specs.Good.{IsGoodWorld, IsGoodEnd, IsReturned, IsInstantiated}
use Rattle.law_code.proofs.Calls.{host_calls_return, instantiations_return}
use Rattle.law_instances.specs.CodeRuns.{left_by, CallsKeepObjects, InstantiationsKeepObjects}

module _ (base : World) where
  kept : (w : World) → IsGoodWorld base w → KeepsObjects base.machine w.machine
  kept w g = keeps_objects base.machine w.machine g.later.store

  end_kept : (e : End) (w : World) → IsGoodEnd base e w → KeepsObjects base.machine w.machine
  end_kept (Trapped t) w g = kept w g
  end_kept (Refused why) w g = kept w g
  end_kept Stopped w g = kept w g
  end_kept (Waiting q) w g = kept w g
  end_kept Exhausted w g = kept w g
  end_kept Stuck w g = absurd g

  returned_kept : (results : List ValType) (o : Outcome) → IsReturned base results o →
      KeepsObjects base.machine (left_by o)
  returned_kept results (Values s) g = kept s.world g.world
  returned_kept results (Over e w) g = end_kept e w g
  returned_kept results (Branch l s) g = absurd g
  returned_kept results (Return s) g = absurd g

  instantiated_kept : (n : _) (d : _) (o : Outcome) → IsInstantiated base n d o → KeepsObjects base.machine (left_by o)
  instantiated_kept n d (Values s) g = kept s.world g.0.world
  instantiated_kept n d (Over e w) g = end_kept e w g
  instantiated_kept n d (Branch l s) g = absurd g
  instantiated_kept n d (Return s) g = absurd g

pub calls_keep_objects : CallsKeepObjects
calls_keep_objects w f args wanted c b e =
    returned_kept w c.results (outermost_call w c) (host_calls_return w f args wanted c b e)

pub instantiations_keep_objects : InstantiationsKeepObjects
instantiations_keep_objects w depth d imports b are =
    instantiated_kept w _ d (instantiate exec depth w d imports) (instantiations_return w depth d imports b are)
