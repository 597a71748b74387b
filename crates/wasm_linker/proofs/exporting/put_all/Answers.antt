use Rattle.std.proofs.Common.{◌∙◌, ap, List, ℕ}
use Rattle.wasm_values.specs.declared.externals.Extern.{Extern}
use Rattle.linker_map.specs.Linkers.{with_item}
use Rattle.wasm_instance.specs.Left.{left}
use Rattle.wasm_linker.specs.Defining.{objects_in}
use Rattle.wasm_linker.proofs.CallLemmas.{always_on_err}
use Rattle.wasm_linker.proofs.ExportLemmas.{one_more, front_defined}
use Rattle.wasm_linker.proofs.exporting.put_all.Goals as goal

pub exports-preserved : goal.exports-preserved
exports-preserved c =
    one_more c.args.space.now (objects_in (left c.args.exports)) c.args.map.now c.exports.map (left c.exports.exports)
    (left c.next.new.self) c.in-Some.export.name.now c.in-Some.export.object c.in-Some.ensures c.exports.invariant
    c.put.new.self
    (c.in_ok-put.ensures.ok
    ∙ ap (λ (name : List ℕ). with_item c.args.space.now name c.into_extern.result c.exports.map) c.name.ensures
    ∙ ap (λ (item : Extern). with_item c.args.space.now c.in-Some.export.name.now item c.exports.map) c.into_extern.ensures)

pub returns-in_err-put-clause-err : goal.returns-in_err-put-clause-err
returns-in_err-put-clause-err c =
    always_on_err c.from_residual.result
    (front_defined c.args.space.now (objects_in (left c.args.exports)) c.args.map.now c.exports.map (left c.exports.exports)
    (left c.next.new.self) c.in-Some.export.name.now c.in-Some.export.object c.in-Some.ensures c.exports.invariant
    c.put.new.self c.in_err-put.ensures.err)
