use Rattle.std.proofs.Common.{◌∙◌, ap, is_none, List, ℕ, Some}
use Rattle.std.specs.Map.{update}
use Rattle.std.specs.Str.{bytes_eq}
use Rattle.wasm_module.specs.Exports.{entity_named}
use Rattle.wasm_module.proofs.ExportNames.{twice, once}
use Rattle.wasm_module.proofs.exports.exports_by_name.Goals as goal

pub returns-then-not-branch-clause-twice : goal.returns-then-not-branch-clause-twice
returns-then-not-branch-clause-twice c =
    twice c.args.exports.now c.loop-export.rest.now c.loop-export.number c.loop-export.by_name c.loop-export.invariant
    c.in-Some.export.now c.in-Some.tail.now c.in-Some.ensures.cases.0 c.in_ok-insert.field-0
    (c.in_ok-insert.ensures.new ∙ ap (λ (name : List ℕ). is_none (entity_named c.loop-export.by_name name)) c.as_str.ensures)
    c.if-not-branch.true

pub loop-export-preserved : goal.loop-export-preserved
loop-export-preserved c =
    once c.args.exports.now c.loop-export.rest.now c.loop-export.number c.loop-export.by_name c.loop-export.invariant
    c.in-Some.export.now c.in-Some.tail.now c.in-Some.ensures.cases.0 c.in_ok-insert.field-0
    (c.in_ok-insert.ensures.new ∙ ap (λ (name : List ℕ). is_none (entity_named c.loop-export.by_name name)) c.as_str.ensures)
    c.if-not-branch.false c.insert.new.self
    (c.in_ok-insert.ensures.added
    ∙ ap (λ (name : List ℕ). update bytes_eq (entity_named c.loop-export.by_name) name (Some c.in-Some.export.now.entity)) c.as_str.ensures)
