use Rattle.std.proofs.Common.{List, sym, ◌∙◌, ap}
use Rattle.wasm_types.specs.Signatures.{Signature}
use Rattle.binary_types.specs.Types.{number_type, value_by}
use Rattle.binary_code.proofs.ResultLemmas.{read_in_then}
use Rattle.binary_code.proofs.block_types.valued.Goals as goal

pub returns : goal.returns
returns c =
    read_in_then _ _ c.in_ok-ty.ty c.value_by.new.input c.plain_number.result _ _
    (ap (λ (ts : List Signature). value_by ts c.args.at c.args.code (number_type c.args.code) c.args.input.now) (sym c.first.ensures) ∙ c.in_ok-ty.ensures)
    (c.plain_number.ensures c.value_by.new.input)
