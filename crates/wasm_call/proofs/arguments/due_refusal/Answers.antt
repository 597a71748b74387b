use Rattle.std.proofs.Common.{◌≡◌, refl, ap, ◌∙◌}
use Rattle.spec_machine.specs.Machine.{Machine}
use Rattle.store_state.specs.Engines.{engine_parts}
use Rattle.store_state.specs.Machine.{run_machine}
use Rattle.store_state.specs.Parts.{ProgramParts}
use Rattle.store_objects.specs.Machines.{base_of, store_of}
use Rattle.wasm_host.specs.Scopes.{scope_of}
use Rattle.wasm_store.specs.Stores.{StoreParts, store_parts}
use Rattle.wasm_call.specs.Arguments.{call_on}
use Rattle.wasm_call.specs.Room.{refusal_of}
use Rattle.wasm_call.proofs.arguments.due_refusal.Goals as goal

pub returns-clause-due : goal.returns-clause-due
returns-clause-due g c =
    let p = c.into_parts-parts.result in
    let base : Machine = base_of p.id (engine_parts p.engine) p.flags in
    let whole : store_of p.id p.engine p.flags p.program p.held ≡ c.args.store.now.machine =
    c.into_parts-parts.ensures.whole ∙ c.take_objects.ensures.taken in
    c.unmet-why.ensures base p.held refl
    ∙ ap (λ (x : ProgramParts). refusal_of (call_on (run_machine base x p.held) (scope_of c.args.scope.now) c.args.func
    c.args.args.now c.args.results)) c.get.ensures
    ∙ ap (λ (m : Machine). refusal_of (call_on m (scope_of c.args.scope.now) c.args.func c.args.args.now c.args.results))
    whole

pub returns-clause-same : goal.returns-clause-same
returns-clause-same g c =
    let p = c.into_parts-parts.result in
    let whole : store_of p.id p.engine p.flags p.program p.held ≡ c.args.store.now.machine =
    c.into_parts-parts.ensures.whole ∙ c.take_objects.ensures.taken in
    let mid : StoreParts _ = c.take_objects.new.store in
    c.put_objects.ensures
    ∙ ap (λ (m : Machine). store_parts m mid.turns mid.host_data) (c.from_parts.ensures ∙ whole)
    ∙ ap (λ (s : StoreParts _). store_parts c.args.store.now.machine s.turns s.host_data) c.take_objects.ensures.left
