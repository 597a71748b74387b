use Rattle.std.proofs.Common.{ap, sym, ◌∙◌}
use Rattle.spec_machine.specs.Machine.{Machine}
use Rattle.spec_machine.specs.Values.{function_type}
use Rattle.store_state.proofs.Instances.{function_type-named}
use Rattle.store_objects.specs.Machines.{base_of}
use Rattle.store_state.specs.Engines.{engine_parts}
use Rattle.store_state.specs.Machine.{type_named}
use Rattle.store_state.specs.Parts.{ProgramParts}
use Rattle.store_objects.proofs.objects.Objects.function_type.Goals as goal

pub returns : goal.returns
returns c =
    let o = c.self.inside in
    c.function_type.ensures ∙ ap (λ (p : ProgramParts). type_named p c.args.index) c.get.ensures
    ∙ (sym (function_type-named (base_of o.id (engine_parts o.engine) o.flags) o.program o.held c.args.index)
    ∙ ap (λ (m : Machine). function_type m c.args.index) c.self.view_is)
