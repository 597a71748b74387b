use Rattle.std.proofs.Common.{List, Err, subst}
use Rattle.wasm_types.specs.Signatures.{Signature}
use Rattle.binary_types.specs.Entries.{global}
use Rattle.binary_types.specs.Reading.{Reads, done, listed}
use Rattle.wasm_binary.specs.Sections.{declared_types}
use Rattle.wasm_binary.proofs.FillLemmas.{passed_on}
use Rattle.wasm_binary.proofs.content.global_section.Goals as goal

pub returns-in_err-globals : goal.returns-in_err-globals
returns-in_err-globals c =
    passed_on (listed (global (declared_types c.args.sections.now)) c.args.input.now)
    (λ xs. done (record c.args.sections.now { globals = xs }))
    c.from_residual.result c.in_err-globals.field-0.0 c.listed.new.input c.args.sections.now c.listed.new.input
    c.from_residual.ensures
    (subst (λ (ts : List Signature). Reads (listed (global ts) c.args.input.now) (Err c.in_err-globals.field-0.0) c.listed.new.input)
    c.declared_types-types.ensures c.in_err-globals.ensures)
