use Rattle.std.proofs.Common.{sym, ap, ◌∙◌, rules, to_z-of_z, SFits}
use Rattle.std.specs.Int.{w32}
use Rattle.spec_execution.specs.Costs.{length_in}
use Rattle.spec_execution.specs.Operands as on
use Rattle.wasm_syntax.specs.Operators.{unsigned}
use Rattle.code_run.proofs.BulkTurnLemmas.{none_on_top, length_is, length_read, no_length}
use Rattle.code_run.proofs.bulk.length_on_top.Goals as goal

pub returns-in_default : goal.returns-in_default
returns-in_default c = none_on_top c.args.operands.now c.in_default.ensures.cases

pub returns-in-I32 : goal.returns-in-I32
returns-in-I32 c =
    let fits : SFits w32 c.in-I32.length = search rules in
    length_read c.in-I32.length c.without_sign.result (c.without_sign.ensures.value
    ∙ ap (unsigned 32) (to_z-of_z fits)) c.without_sign.ensures.within
    ∙ ap (λ v. length_in (on.integer_in 32 v)) (sym c.in-I32.is)
    ∙ length_is c.args.operands.now c.in-Some.field-0-1.now c.in-Some.top.now c.in-Some.ensures.cases.0

pub returns-in_default-top : goal.returns-in_default-top
returns-in_default-top c =
    sym (no_length c.in-Some.top.now c.in_default-top.not-I32)
    ∙ length_is c.args.operands.now c.in-Some.field-0-1.now c.in-Some.top.now c.in-Some.ensures.cases.0
