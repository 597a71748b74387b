use Rattle.std.proofs.Common.{◌≡◌, true, sym, ◌∙◌, ap}
use Rattle.std.specs.Prelude.{slice_get, Some, None}
use Rattle.wasm_values.specs.Handles.{instance_store, instance_index}
use Rattle.spec_machine.specs.Values.{is_id}
use Rattle.store_state.specs.Engines.{engine_parts}
use Rattle.store_state.specs.Parts.{ProgramParts}
use Rattle.store_objects.proofs.InstanceLemmas.{instance_found, instance_missing}
use Rattle.store_objects.specs.Machines.{base_of}
use Rattle.store_objects.proofs.objects.Objects.instance.Goals as goal

pub returns-in-Some : goal.returns-in-Some
returns-in-Some c =
    let o = c.self.inside in
    let own : is_id (instance_store c.args.instance) c.args.self.now.id ≡ true = cc in
    let found : slice_get o.program.instances (instance_index c.args.instance) ≡ Some c.in-Some.stored.now =
    sym (c.in-Some.ensures ∙ ap (λ (p : ProgramParts). slice_get p.instances c.index.result) c.get.ensures
    ∙ ap (slice_get o.program.instances) c.index.ensures) in
    instance_found (base_of o.id (engine_parts o.engine) o.flags) o.program o.held c.args.self.now c.self.view_is
    c.args.instance own c.in-Some.stored.now found

pub returns-in-None : goal.returns-in-None
returns-in-None c =
    let o = c.self.inside in
    let own : is_id (instance_store c.args.instance) c.args.self.now.id ≡ true = cc in
    let none : slice_get o.program.instances (instance_index c.args.instance) ≡ None =
    sym (c.in-None.ensures ∙ ap (λ (p : ProgramParts). slice_get p.instances c.index.result) c.get.ensures
    ∙ ap (slice_get o.program.instances) c.index.ensures) in
    instance_missing (base_of o.id (engine_parts o.engine) o.flags) o.program o.held c.args.self.now c.self.view_is
    c.args.instance own none
