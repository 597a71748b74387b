-- An instantiation is confined, by what it answers.
use Rattle.std.proofs.Common.{List}
use Rattle.std.specs.Prelude.{Result, Ok, Err}
use Rattle.wasm_types.specs.declared.faults.OutOfMemory.{OutOfMemory as NoMemory}
use Rattle.wasm_syntax.specs.Modules.{IsModule}
use Rattle.wasm_syntax.specs.declared.declarations.ModuleDecl.{ModuleDecl}
use Rattle.wasm_values.specs.declared.externals.Extern.{Extern}
use Rattle.wasm_values.specs.declared.handles.Instance.{Instance}
use Rattle.wasm_values.specs.declared.refusals.Refusal.{Refusal}
use Rattle.wasm_values.specs.declared.refusals.Refusal.TheVariants.{OutOfMemory}
use Rattle.spec_machine.specs.Commands.{Instantiate}
use Rattle.spec_machine.specs.WellFormed.{IsWellFormed}
use Rattle.spec_machine.specs.declared.reply.Reply.{Reply}
use Rattle.spec_machine.specs.declared.reply.Reply.TheVariants as reply
use Rattle.spec_execution.specs.Askings.{Relations}
use Rattle.wasm_call.specs.Confined.{InstantiationConfined, told}
use Rattle.wasm_call.specs.Outcomes.{Called}
use Rattle.wasm_call.specs.Outside.{Surrounded, typed}
use Rattle.wasm_call.proofs.ConfinedLemmas.{instantiation_confined}
use Rattle.wasm_instance.specs.Instances.{InstantiationFailed, Instantiated}

module _ {T H E : Type 0} (r : Relations T H E) (old new : Surrounded T H E) (well : IsWellFormed old.store.machine)
    (d : ModuleDecl) (imports : List Extern) (is : IsModule d) where
  abbrev told_by : Result Instance Refusal → Result Reply NoMemory
  told_by result = told (λ made. reply.Instance made) result

  abbrev Ran : Result Reply NoMemory → Type 0
  Ran result = Called (typed r) (Instantiate d imports) old result new

  ran_failed : (why : Refusal) → InstantiationFailed (typed r) d imports old why new → Ran (told_by (Err why))
  ran_failed OutOfMemory k = k
  ran_failed why l = l

  ran_by : (result : Result Instance Refusal) → Instantiated (typed r) d imports old result new → Ran (told_by result)
  ran_by (Ok made) l = l
  ran_by (Err why) l = ran_failed why l

  pub making_confined : (result : Result Instance Refusal) → Instantiated (typed r) d imports old result new →
      InstantiationConfined (typed r) d imports old result new
  making_confined result h = instantiation_confined r old new well d imports is result (ran_by result h)
