use Rattle.std.proofs.Common.{List, sym, ap, ◌∙◌, subst}
use Rattle.std.specs.List.{All}
use Rattle.wasm_types.specs.Memories.{Memory}
use Rattle.wasm_syntax.specs.declared.declarations.ModuleDecl.{ModuleDecl}
use Rattle.wasm_objects.specs.Tables.{Table}
use Rattle.store_state.specs.Parts.{ProgramParts, HeldParts}
use Rattle.store_state.specs.Within.{IsMemorySized, IsTableSized}
use Rattle.instance_parts.proofs.SizeLemmas.{sized_memories, sized_tables}
use Rattle.instance_parts.proofs.AddedLemmas.{all_added, own_segments, on_both, on_ok}
use Rattle.instance_parts.proofs.making.add_instance.Goals as goal

pub add_objects-requires-clause-memories : goal.add_objects-requires-clause-memories
add_objects-requires-clause-memories c =
    let d : ModuleDecl = c.args.validated.now in
    let P : List Memory → Type 0 = λ xs. All IsMemorySized xs in
    subst P (sym c.requires.shaped.memories) (sized_memories d c.requires.range.memories)

pub add_objects-requires-clause-tables : goal.add_objects-requires-clause-tables
add_objects-requires-clause-tables c =
    let d : ModuleDecl = c.args.validated.now in
    let P : List Table → Type 0 = λ xs. All IsTableSized xs in
    subst P (sym c.requires.shaped.tables)
    (sized_tables d c.requires.shaped.functions c.requires.shaped.imported c.requires.range.tables)

pub returns-clause-ok : goal.returns-clause-ok
returns-clause-ok c =
    let p : ProgramParts = c.args.program.now in
    let fit = c.in_ok-fit_segments.ensures in
    λ base.
    on_both c.add_objects.result _ _ _
    (all_added base p c.add_objects.new.program c.args.held.now c.fit_segments.new.self c.add_objects.new.held
    c.args.validated.now c.args.imports.now c.args.objects (c.requires.new base)
    (fit.same p.instances (sym c.instance_count.ensures)) (fit.fitted ∙ c.instance_count.ensures) fit.rest)
    c.add_objects.ensures.program_ok c.add_objects.ensures.held_ok

pub returns-clause-segments : goal.returns-clause-segments
returns-clause-segments c =
    let fit = c.in_ok-fit_segments.ensures in
    on_ok c.add_objects.result _ _
    (λ e. own_segments c.fit_segments.new.self c.add_objects.new.held c.args.objects.segments _
    (fit.fitted ∙ c.instance_count.ensures) (ap (λ (h : HeldParts). h.segments) e))
    c.add_objects.ensures.held_ok
