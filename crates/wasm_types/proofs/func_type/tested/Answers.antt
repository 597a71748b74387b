use Rattle.std.proofs.Common.{rules, arith}
use Rattle.std.specs.Option.{option_copied}
use Rattle.wasm_types.proofs.SoundTypeLemmas.{is_tested}
use Rattle.wasm_types.proofs.func_type.tested.Goals as goal

pub returns-clause-made : goal.returns-clause-made
returns-clause-made c =
    is_tested c.args.engine.0 c.args.finality (option_copied c.args.supertype) c.args.params.now c.args.results.now _ _
    c.extent_above-above.result.size c.extent_of-taken.result.size c.extent_of-given.result.size
    (grind arith) (grind arith) (grind arith) (grind arith) c.extent_above-above.ensures.size c.extent_of-taken.ensures.size c.extent_of-given.ensures.size (search rules) (grind arith)
    c.extent_above-above.ensures.sound c.extent_of-taken.ensures.sound c.extent_of-given.ensures.sound
