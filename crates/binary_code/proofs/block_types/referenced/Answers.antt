use Rattle.wasm_types.specs.declared.value_types.ValType.TheVariants as v
use Rattle.binary_code.proofs.BlockLemmas.{key_of_one}
use Rattle.binary_code.proofs.ResultLemmas.{read_in_then}
use Rattle.binary_code.proofs.block_types.referenced.Goals as goal

pub number_of-requires : goal.number_of-requires
number_of-requires c =
    key_of_one c.args.types.now (v.Ref c.in_ok-ty.ty) c.in_ok-key.key c.reference.new.key c.in_ok-key.ensures.ok c.in_ok-ty.ensures.key

pub returns : goal.returns
returns c =
    read_in_then _ _ c.in_ok-ty.ty c.reference.new.input c.number_of.result _ _ c.in_ok-ty.ensures.read (c.number_of.ensures c.reference.new.input)
