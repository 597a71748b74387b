use Rattle.std.proofs.Common.{◌≡◌, List, sym, ap, ◌∙◌}
use Rattle.std.specs.Prelude.{slice_get, Some, None}
use Rattle.wasm_objects.specs.declared.raw.RawRef.{RawRef}
use Rattle.store_state.specs.Engines.{engine_parts}
use Rattle.store_state.specs.Parts.{ProgramParts}
use Rattle.store_objects.proofs.LinkLemmas.{segment_is, no_segment}
use Rattle.store_objects.specs.Machines.{base_of}
use Rattle.store_objects.proofs.objects.Objects.element_segment.Goals as goal

pub returns-in-Some : goal.returns-in-Some
returns-in-Some c =
    let o = c.self.inside in
    let found : slice_get o.program.instances c.args.instance ≡ Some c.in-Some.field-0.now =
    sym (c.in-Some.ensures ∙ ap (λ (p : ProgramParts). slice_get p.instances c.args.instance) c.get.ensures) in
    c.segment_at.ensures ∙ (ap (λ (l : List (List RawRef)). slice_get l c.args.segment) c.element_segments.ensures
    ∙ segment_is (base_of o.id (engine_parts o.engine) o.flags) o.program o.held c.args.self.now c.self.view_is
    c.args.instance c.in-Some.field-0.now found c.args.segment)

pub returns-in-None : goal.returns-in-None
returns-in-None c =
    let o = c.self.inside in
    let none : slice_get o.program.instances c.args.instance ≡ None =
    sym (c.in-None.ensures ∙ ap (λ (p : ProgramParts). slice_get p.instances c.args.instance) c.get.ensures) in
    no_segment (base_of o.id (engine_parts o.engine) o.flags) o.program o.held c.args.self.now c.self.view_is
    c.args.instance none c.args.segment
