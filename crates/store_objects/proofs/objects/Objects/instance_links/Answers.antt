use Rattle.std.proofs.Common.{◌≡◌, ◌+◌, ℕ, List, length, sym, ap, ◌∙◌}
use Rattle.std.specs.Prelude.{slice_get, Some, None}
use Rattle.wasm_objects.specs.declared.raw.RawRef.{RawRef}
use Rattle.store_state.specs.Engines.{engine_parts}
use Rattle.store_state.specs.Parts.{ProgramParts}
use Rattle.store_objects.proofs.LinkLemmas.{named_by, links_of, no_links}
use Rattle.store_objects.specs.Links.{counted, segment_places}
use Rattle.store_objects.specs.Machines.{base_of}
use Rattle.store_objects.proofs.objects.Objects.instance_links.Goals as goal

pub returns-in-Some : goal.returns-in-Some
returns-in-Some c =
    let o = c.self.inside in
    let found : slice_get o.program.instances c.args.number ≡ Some c.in-Some.instance.now =
    sym (c.in-Some.ensures ∙ ap (λ (p : ProgramParts). slice_get p.instances c.args.number) c.get.ensures) in
    c.with_items.ensures
    ∙ (ap (λ (n : ℕ). counted (n + length (segment_places c.element_segments.result.now))) c.named_count-named.ensures
    ∙ (ap (λ (l : List (List RawRef)). counted (counted (length (named_by c.in-Some.instance.now)) + length (segment_places l)))
    c.element_segments.ensures
    ∙ links_of (base_of o.id (engine_parts o.engine) o.flags) o.program o.held c.args.self.now c.self.view_is c.args.number
    c.in-Some.instance.now found))

pub returns-in-None : goal.returns-in-None
returns-in-None c =
    let o = c.self.inside in
    let none : slice_get o.program.instances c.args.number ≡ None =
    sym (c.in-None.ensures ∙ ap (λ (p : ProgramParts). slice_get p.instances c.args.number) c.get.ensures) in
    no_links (base_of o.id (engine_parts o.engine) o.flags) o.program o.held c.args.self.now c.self.view_is c.args.number none
