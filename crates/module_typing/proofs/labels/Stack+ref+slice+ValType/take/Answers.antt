use Rattle.std.proofs.Common.{◌∙◌, sym, true, false}
use Rattle.module_typing.specs.Imported.{seen}
use Rattle.module_typing.specs.Operands.{types_in}
use Rattle.module_typing.proofs.Walks.{first_label}
use Rattle.module_typing.proofs.labels.Stack+ref+slice+ValType.take.Goals as goal

pub returns-then-not-takes : goal.returns-then-not-takes
returns-then-not-takes c =
    sym c.loop-target.invariant
    ∙ first_label (seen c.args.self.now) c.args.count _ _ _ (types_in c.args.code.now c.args.operands.now) false c.in-Some.ensures.cases.0 c.if-not-takes.ensures

pub loop-target-preserved : goal.loop-target-preserved
loop-target-preserved c =
    sym (first_label (seen c.args.self.now) c.args.count _ _ _ (types_in c.args.code.now c.args.operands.now) true c.in-Some.ensures.cases.0 c.if-not-takes.ensures)
    ∙ c.loop-target.invariant
