use Rattle.std.proofs.Common.{◌≡◌, List, refl, sym, ◌∙◌, subst, arith}
use Rattle.code_stack.specs.Cuts.{RowParts}
use Rattle.code_stack.specs.Layers.{means}
use Rattle.code_leaps.specs.Leaps.{placed}
use Rattle.code_stack.specs.declared.layers.Layer.{Layer}
use Rattle.code_leaps.proofs.BurstLemmas.{burst_none}
use Rattle.code_leaps.proofs.LeapTurnLemmas.{leap_on}
use Rattle.code_leaps.proofs.RoundLemmas.{Led}
use Rattle.code_leaps.proofs.entries.enter_blocks.Goals as goal
use Rattle.code_leaps.proofs.entries.enter_blocks.Goals.{else-nested-test, then-nested-test+in_default}

pub nested-init : goal.nested-init
nested-init c = record {
  within = omega arith;
  still = λ e. refl;
  height = c.requires;
  few = omega arith;
  enters = λ program rules owed held further locals.
      burst_none program rules owed
      (means (placed c.args.activation.now c.args.layers.now c.args.operands.now further c.args.code.now c.args.height
      locals)) held c.args.turns;
}

pub nested-preserved : goal.nested-preserved
nested-preserved c =
    let start = c.args in
    let some = c.nested-test.true in
    record {
      within = omega (arith, c.nested.invariant.within);
      still = λ e. absurd (omega (arith, e, some, c.nested.invariant.within));
      height = c.in-Some.ensures.within;
      few = omega (arith, some, c.in-Some.ensures.few, c.nested.invariant.few);
      enters = λ program rules owed held further locals.
          leap_on program rules owed
          (means (placed start.activation.now start.layers.now start.operands.now further start.code.now start.height
          locals)) held start.turns c.nested.left c.nested.invariant.within some held
          (placed start.activation.now c.nested.layers c.nested.operands further c.nested.code.now c.nested.height locals)
          (placed start.activation.now c.enter_first.new.layers c.enter_first.new.operands further c.in-Some.hop.code.now
          c.in-Some.hop.height locals)
          (c.in-Some.ensures.leaps program held.tables rules.frames further locals)
          (c.nested.invariant.enters program rules owed held further locals);
    }

pub returns-clause-enters : goal.returns-clause-enters
returns-clause-enters c = λ program rules owed held further locals.
    let a = c.args.activation.now in
    let ls' = c.nested-test.layers in
    let row' = c.nested-test.operands in
    let due = means (placed a c.args.layers.now c.args.operands.now further c.args.code.now c.args.height locals) in
    let here : List Layer → RowParts → Type 0 = λ ls row.
    Led program rules owed due held c.args.turns c.nested.left c.nested.invariant.within held c.nested.left
    (means (placed a ls row further c.nested.code.now c.nested.height locals)) held in
    let stood : ls' ≡ c.nested.layers → row' ≡ c.nested.operands → here ls' row' = λ ls_is row_is.
    subst (λ ls. here ls row') (sym ls_is)
    (subst (λ row. here c.nested.layers row) (sym row_is)
    (c.nested.invariant.enters program rules owed held further locals)) in
    elim c.nested-test.branch [
      | else-nested-test w ↦ stood w.layers-is w.operands-is
      | then-nested-test+in_default w ↦
          stood (w.layers-is ∙ w.in_default.ensures.none.0) (w.operands-is ∙ w.in_default.ensures.none.1)
    ]
