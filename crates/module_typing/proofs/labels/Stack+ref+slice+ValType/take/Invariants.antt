use Rattle.std.proofs.Common.{◌≡◌, length}
use Rattle.wasm_syntax.specs.Typing.{want_labels}
use Rattle.module_typing.specs.Imported.{seen}
use Rattle.module_typing.specs.Operands.{types_in}
use Rattle.module_typing.proofs.labels.Stack+ref+slice+ValType.take.Given as goal

abbrev pub invariant-loop-target : goal.invariant-loop-target
invariant-loop-target l =
    want_labels (seen l.self) l.count l.rest (types_in l.code l.operands)
    ≡ want_labels (seen l.self) l.count l.targets (types_in l.code l.operands)

abbrev pub decreases-loop-target : goal.decreases-loop-target
decreases-loop-target l = length l.rest
