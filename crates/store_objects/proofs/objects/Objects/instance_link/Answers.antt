use Rattle.std.proofs.Common.{◌≡◌, List, sym, ap, ◌∙◌}
use Rattle.std.specs.Prelude.{slice_get, Some, None}
use Rattle.wasm_objects.specs.declared.raw.RawRef.{RawRef}
use Rattle.store_state.specs.Engines.{engine_parts}
use Rattle.store_state.specs.Parts.{ProgramParts}
use Rattle.store_objects.proofs.LinkLemmas.{link_named, link_behind, no_link}
use Rattle.store_objects.specs.Links.{member, segment_places}
use Rattle.store_objects.specs.Machines.{base_of}
use Rattle.store_objects.proofs.objects.Objects.instance_link.Goals as goal

pub returns-in-Ok : goal.returns-in-Ok
returns-in-Ok c =
    let o = c.self.inside in
    let found : slice_get o.program.instances c.args.number ≡ Some c.in-Some.instance.now =
    sym (c.in-Some.ensures ∙ ap (λ (p : ProgramParts). slice_get p.instances c.args.number) c.get.ensures) in
    link_named (base_of o.id (engine_parts o.engine) o.flags) o.program o.held c.args.self.now c.self.view_is c.args.number
    c.in-Some.instance.now found c.args.place c.in-Ok.node c.in-Ok.ensures

pub returns-in-Err : goal.returns-in-Err
returns-in-Err c =
    let o = c.self.inside in
    let found : slice_get o.program.instances c.args.number ≡ Some c.in-Some.instance.now =
    sym (c.in-Some.ensures ∙ ap (λ (p : ProgramParts). slice_get p.instances c.args.number) c.get.ensures) in
    c.item_at.ensures
    ∙ (ap (λ (l : List (List RawRef)). member (slice_get (segment_places l) c.in-Err.rest)) c.element_segments.ensures
    ∙ link_behind (base_of o.id (engine_parts o.engine) o.flags) o.program o.held c.args.self.now c.self.view_is
    c.args.number c.in-Some.instance.now found c.args.place c.in-Err.rest c.in-Err.ensures)

pub returns-in-None : goal.returns-in-None
returns-in-None c =
    let o = c.self.inside in
    let none : slice_get o.program.instances c.args.number ≡ None =
    sym (c.in-None.ensures ∙ ap (λ (p : ProgramParts). slice_get p.instances c.args.number) c.get.ensures) in
    no_link (base_of o.id (engine_parts o.engine) o.flags) o.program o.held c.args.self.now c.self.view_is c.args.number none
    c.args.place
