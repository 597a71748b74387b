use Rattle.wasm_types.specs.FunctionParts.{supertype_of, types_of}
use Rattle.binary_index.specs.Keys.{IsKeyOf}
use Rattle.binary_index.proofs.SaidLemmas.{key_said}
use Rattle.binary_types.proofs.Parts.{made_is, made_reads}
use Rattle.binary_types.proofs.Steps.{read_then}
use Rattle.binary_types.proofs.function_types.function_type_at.Goals as goal

pub returns-clause-read : goal.returns-clause-read
returns-clause-read c =
    read_then _ _ c.in_ok-code.code _ _ c.finished.result c.in_ok-code.ensures
    (read_then _ _ c.in_ok-heading.heading _ _ c.finished.result c.in_ok-heading.ensures.read
    (read_then _ _ c.in_ok-params.params _ _ c.finished.result c.in_ok-params.ensures.read
    (read_then _ _ c.in_ok-results.results _ _ c.finished.result c.in_ok-results.ensures.read
    (made_reads c.args.at _ _ c.finished.result c.keyed_values-2.new.input c.finished.ensures))))

pub returns-clause-key : goal.returns-clause-key
returns-clause-key c =
    made_is c.args.at _ _ c.finished.result (λ t. IsKeyOf c.args.types.now t c.keyed_values-2.new.key) c.finished.ensures
    (λ t is. key_said c.args.types.now t c.args.engine.0 c.in_ok-heading.heading.finality (supertype_of c.in_ok-heading.heading.supertype)
    (types_of c.in_ok-params.params) (types_of c.in_ok-results.results)
    c.args.key.now c.heading_by.new.key c.keyed_values.new.key c.push_end.new.self c.keyed_values-2.new.key
    is c.requires c.in_ok-heading.ensures.key c.in_ok-params.ensures.key c.in_ok-push_end.ensures c.in_ok-results.ensures.key)
