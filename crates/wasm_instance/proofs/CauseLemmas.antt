-- An instantiation is refused by what is outside only where the count of that rose.
use Rattle.std.proofs.Common.{ℕ, List}
use Rattle.std.specs.Prelude.{Result, Ok, Err, IfErr}
use Rattle.wasm_syntax.specs.declared.declarations.ModuleDecl.{ModuleDecl}
use Rattle.wasm_values.specs.declared.externals.Extern.{Extern}
use Rattle.wasm_values.specs.declared.handles.Instance.{Instance}
use Rattle.wasm_values.specs.declared.refusals.Refusal.{Refusal}
use Rattle.wasm_values.specs.declared.refusals.Refusal.TheVariants.{OutOfMemory}
use Rattle.spec_machine.specs.Commands.{Instantiate}
use Rattle.spec_execution.specs.Askings.{Relations}
use Rattle.law_causes.specs.Causes.{GrowsInVain}
use Rattle.law_causes.specs.Tallies.{IsCounted}
use Rattle.wasm_call.specs.Outside.{Surrounded, typed}
use Rattle.wasm_call.proofs.CauseLemmas.{ByCounts, answered_by_counts}
use Rattle.wasm_instance.specs.Instances.{InstantiationFailed, Instantiated}

module _ {T H E : Type 0} (r : Relations T H E) (denials limiter_faults hook_faults behaviour_faults : T → ℕ)
    (epoch_faults : E → ℕ) (host_faults : H → ℕ)
    (counted : IsCounted r denials limiter_faults hook_faults behaviour_faults epoch_faults host_faults)
    (d : ModuleDecl) (imports : List Extern) (old new : Surrounded T H E) where
  abbrev Fails : Refusal → Type 0
  Fails why =
      ByCounts r denials limiter_faults hook_faults behaviour_faults epoch_faults host_faults counted old new
      (GrowsInVain old.store.machine (Instantiate d imports)) why

  failed_by_counts : (why : Refusal) → InstantiationFailed (typed r) d imports old why new → Fails why
  failed_by_counts OutOfMemory h = tt
  failed_by_counts why h =
      answered_by_counts r denials limiter_faults hook_faults behaviour_faults epoch_faults host_faults counted
      (Instantiate d imports) (record { by = tt }) old new why old.store.machine.engine.turns h

  pub instantiated_by_counts : (i : Result Instance Refusal) → Instantiated (typed r) d imports old i new →
      IfErr i Fails
  instantiated_by_counts (Ok instance) h = tt
  instantiated_by_counts (Err why) h = failed_by_counts why h
