use Rattle.std.proofs.Common.{◌∙◌, refl, sym, ap, subst, length}
use Rattle.code_stack.specs.Cuts.{RowParts}
use Rattle.code_stack.specs.Lending.{with_last}
use Rattle.code_straight.specs.Frames.{IsWithin}
use Rattle.code_stack.specs.Layers.{means}
use Rattle.code_leaps.specs.Leaps.{amid, placed}
use Rattle.code_leaps.proofs.BurstLemmas.{burst_none}
use Rattle.code_leaps.proofs.LeapTurnLemmas.{lent_round, left_all}
use Rattle.code_leaps.proofs.leaps.perform_part.Goals as goal

pub returns-then-ahead-clause-leads : goal.returns-then-ahead-clause-leads
returns-then-ahead-clause-leads c = λ frames rules owed same free.
    let rows = c.args.rows.now in
    burst_none c.args.program.now rules owed
    (means (placed c.args.activation.now c.args.layers.now rows.operands rows.locals.before c.args.ahead.led.hop.code.now c.args.ahead.led.hop.height
    rows.locals.last)) c.args.held.now c.args.ahead.led.left

pub returns-clause-leads : goal.returns-clause-leads
returns-clause-leads c = λ frames rules owed same free.
    let a = c.args.activation.now in
    let ls = c.args.layers.now in
    let rows = c.args.rows.now in
    let slice = c.perform_rounds.new.operands in
    let locals = c.perform_rounds.new.locals in
    let row : RowParts = with_last rows.operands slice in
    let own : RowParts = with_last rows.locals locals in
    lent_round c.args.program.now rules owed c.args.held.now c.perform_rounds.new.held a ls rows.operands row rows.locals
    own c.args.ahead.led.hop.code.now c.args.ahead.led.hop.height c.args.ahead.led.left c.last_mut.result.now slice c.last_mut-2.result.now locals
    c.last_mut.ensures.value
    (left_all rows.operands.last slice (c.perform_rounds.ensures.long ∙ ap length c.last_mut.ensures.value)) refl
    c.last_mut-2.ensures.value
    (left_all rows.locals.last locals (c.perform_rounds.ensures.many ∙ ap length c.last_mut-2.ensures.value)) refl
    c.perform_rounds.result
    (c.perform_rounds.ensures.leads rules owed (amid a ls rows.operands rows.locals.before) refl
    (c.innermost_loop-again.ensures rows.locals.before) free)

pub returns-clause-within : goal.returns-clause-within
returns-clause-within c =
    let slice = c.perform_rounds.new.operands in
    subst (λ xs. IsWithin c.perform_rounds.result.framed xs)
    (sym (left_all c.args.rows.now.operands.last slice
    (c.perform_rounds.ensures.long ∙ ap length c.last_mut.ensures.value))) c.perform_rounds.ensures.within
