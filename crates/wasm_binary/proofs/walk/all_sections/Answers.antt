use Rattle.std.proofs.Common.{◌∙◌, sym, ap, nat_eq, length}
use Rattle.wasm_binary.proofs.SectionLemmas.{section_shorter, sections_more}
use Rattle.wasm_binary.proofs.walk.all_sections.Goals as goal

pub sections-smaller : goal.sections-smaller
sections-smaller c =
    section_shorter c.args.engine c.sections.sections c.sections.input c.section.new.sections c.section.new.input
    c.in_ok-section.ensures

pub sections-preserved : goal.sections-preserved
sections-preserved c =
    c.sections.invariant
    ∙ sections_more c.args.engine c.sections.sections c.sections.input c.section.new.sections c.section.new.input
    (ap (λ xs. nat_eq (length xs) 0) (sym c.left.ensures) ∙ sym c.is_empty.ensures ∙ c.sections-test.true) c.in_ok-section.ensures
