use Rattle.std.proofs.Common.{◌≡◌, ℕ, List, length, ap, sym, ◌∙◌, subst}
use Rattle.wasm_syntax.specs.declared.declarations.ModuleDecl.{ModuleDecl}
use Rattle.wasm_values.specs.declared.externals.Extern.{Extern}
use Rattle.wasm_objects.specs.declared.raw.RawVal.{RawVal}
use Rattle.spec_execution.specs.Allocation.{function_numbers, global_values}
use Rattle.spec_execution.specs.Segments.{Done, make}
use Rattle.law_images.proofs.LeadingLemmas.{made_by_images}
use Rattle.law_images.specs.Leading.{led, take_others}
use Rattle.spec_machine.specs.Machine.{Machine}
use Rattle.store_state.specs.Machine.{run_machine, segments_at}
use Rattle.store_state.specs.Parts.{ProgramParts, HeldParts}
use Rattle.store_state.specs.declared.additions.NewObjects.{NewObjects}
use Rattle.instance_parts.specs.Preparing.{EndsAs}
use Rattle.instance_parts.specs.Taking.{followed}
use Rattle.instance_parts.specs.declared.making.Ending.{Ending}
use Rattle.instance_parts.proofs.AddedLemmas.{instance_count, elements_stand, datas_stand}
use Rattle.instance_parts.proofs.EndLemmas.{ends_as}
use Rattle.instance_parts.proofs.making.make_instance.Goals as goal

pub take_segments-acted-requires : goal.take_segments-acted-requires
take_segments-acted-requires c =
    let n : ℕ = c.instance_count-number.result in
    let h : HeldParts = c.add_instance.new.held in
    let d : ModuleDecl = c.args.validated.now in
    let o : NewObjects = c.in_ok-prepared.prepared.objects in
    let own : segments_at h.segments n ≡ o.segments =
    ap (segments_at h.segments) c.instance_count-number.ensures ∙ c.in_ok-add_instance.ensures.segments in
    record {
      elements = elements_stand h n d o c.in_ok-prepared.ensures.shaped own;
      datas = datas_stand h n d o c.in_ok-prepared.ensures.shaped own;
    }

pub returns-clause-ok : goal.returns-clause-ok
returns-clause-ok c = λ base.
    let p : ProgramParts = c.args.program.now in
    let h : HeldParts = c.args.held.now in
    let d : ModuleDecl = c.args.validated.now in
    let imports : List Extern = c.args.imports.now in
    let m : Machine = run_machine base p h in
    let fs : List ℕ = function_numbers m d imports in
    let n : ℕ = c.instance_count-number.result in
    let vs : List RawVal = c.as_slice.result.now in
    let new : Machine = run_machine base c.add_instance.new.program c.take_segments-acted.new.held in
    let number_is : n ≡ length m.instances =
    c.instance_count-number.ensures ∙ sym (instance_count p.instances h.segments) in
    let taken : make m d imports ≡ followed c.take_segments-acted.result new Done =
    made_by_images m d imports c.requires.aligned
    ∙ ap (λ (k : ℕ). take_others k fs (global_values m d imports) (led m d imports) d) (sym number_is)
    ∙ ap (λ (ws : List RawVal). take_others n fs ws (led m d imports) d)
    (sym (c.as_slice.ensures.value ∙ c.in_ok-prepared.ensures.values base))
    ∙ ap (λ (k : Machine). take_others n fs vs k d) (sym (c.in_ok-add_instance.ensures.ok base))
    ∙ c.take_segments-acted.ensures base fs in (
      number_is,
      subst (λ (e : Ending). EndsAs fs d.start (make m d imports) e new) (sym c.ending_of.ensures)
          (ends_as fs d.start (make m d imports) new c.take_segments-acted.result c.in_ok-prepared.prepared.behind taken
          (c.in_ok-prepared.ensures.behind base)),
    )
