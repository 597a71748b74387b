use Rattle.std.proofs.Common.{◌≤◌, ◌∙◌, sym, subst, arith}
use Rattle.code_straight.specs.Frames.{IsWithin}
use Rattle.code_stack.specs.Layers.{means}
use Rattle.code_leaps.specs.Leading.{Doing}
use Rattle.code_leaps.specs.Leaps.{placed, LeadsBehind}
use Rattle.code_leaps.proofs.LeapTurnLemmas.{behind_same, led_part, led_behind, led_fewer, led_left, led_moved}
use Rattle.code_leaps.proofs.RoundLemmas.{Led}
use Rattle.code_leaps.proofs.leaps.perform_leaps.Goals as goal

pub returns-in_default-clause-leads : goal.returns-in_default-clause-leads
returns-in_default-clause-leads c = λ rules owed same free.
    let ran = c.perform_part-ran.result in
    let held = c.perform_part-ran.new.held in
    let start = c.args.rows.now in
    let rows = c.perform_part-ran.new.rows in
    let old = c.leaps.rows in
    let layers = c.enter_ahead-ahead.new.layers in
    let due = means (placed c.args.activation.now c.args.layers.now start.operands start.locals.before c.args.code.now
    c.args.height start.locals.last) in
    subst (λ (d : Doing). Led c.args.program.now rules owed due c.args.held.now c.args.turns c.leaps.left
    c.leaps.invariant.within c.leaps.held ran.left d held)
    (behind_same c.leaps.activation c.lead_on.new.activation layers c.lead_on.new.layers rows.operands
    c.lead_on.new.rows.operands rows.locals c.lead_on.new.rows.locals ran.rest.now ran.framed
    c.in_default.ensures.none.activation c.in_default.ensures.none.layers c.in_default.ensures.none.operands
    c.in_default.ensures.none.around c.in_default.ensures.none.locals c.in_default.ensures.none.callers)
    (led_part c.args.program.now rules owed due c.args.held.now c.args.turns c.leaps.left c.leaps.invariant.within
    c.leaps.held held c.args.floor c.leaps.invariant.fuel free c.leaps.activation c.leaps.layers layers old.operands
    c.enter_ahead-ahead.new.operands rows.operands old.locals rows.locals c.leaps.code.now c.leaps.height
    c.enter_ahead-ahead.result.led ran (c.leaps.invariant.leads rules owed same free)
    c.enter_ahead-ahead.ensures.enters c.enter_ahead-ahead.ensures.left
    (c.perform_part-ran.ensures.leads rules.frames) c.perform_part-ran.ensures.left)

pub leaps-preserved : goal.leaps-preserved
leaps-preserved c =
    let ran = c.perform_part-ran.result in
    let held = c.perform_part-ran.new.held in
    let start = c.args.rows.now in
    let rows = c.perform_part-ran.new.rows in
    let old = c.leaps.rows in
    let layers = c.enter_ahead-ahead.new.layers in
    let e = c.enter_ahead-ahead.ensures in
    let within : ran.left ≤ c.args.turns = omega (
      arith,
      c.perform_part-ran.ensures.left,
      e.left,
      c.leaps.invariant.within,
    ) in
    let less = led_left c.args.program.now held.tables c.args.frames ran c.args.floor c.leaps.activation
    c.lead_on.new.activation layers c.lead_on.new.layers
    rows.operands c.lead_on.new.rows.operands rows.locals c.lead_on.new.rows.locals c.in-Some.led c.in-Some.ensures.leads
    in
    record {
      within = omega (arith, less, within);
      still = λ is. absurd (led_moved c.args.program.now held.tables c.args.frames ran c.args.floor c.leaps.activation
          c.lead_on.new.activation layers c.lead_on.new.layers rows.operands c.lead_on.new.rows.operands rows.locals
          c.lead_on.new.rows.locals c.in-Some.led c.args.turns within c.args.code.now c.requires.some
          (λ is.
          c.perform_part-ran.ensures.still
          (omega (arith, is, c.perform_part-ran.ensures.left, e.left, c.leaps.invariant.within))
          ∙ e.still (omega (arith, is, c.perform_part-ran.ensures.left, e.left, c.leaps.invariant.within))
          ∙ c.leaps.invariant.still
          (omega (arith, is, c.perform_part-ran.ensures.left, e.left, c.leaps.invariant.within)))
          c.in-Some.ensures.leads is);
      height = c.in-Some.ensures.within;
      fuel = c.perform_part-ran.ensures.fuel ∙ c.leaps.invariant.fuel;
      leads = λ rules owed same free.
          let due = means (placed c.args.activation.now c.args.layers.now start.operands start.locals.before
          c.args.code.now c.args.height start.locals.last) in
          led_behind c.args.program.now rules owed due c.args.held.now c.args.turns ran within held c.leaps.activation
          c.lead_on.new.activation layers c.lead_on.new.layers rows.operands c.lead_on.new.rows.operands
          rows.locals c.lead_on.new.rows.locals c.args.floor
          (c.perform_part-ran.ensures.fuel ∙ c.leaps.invariant.fuel) free c.in-Some.led
          (subst (λ k. LeadsBehind c.args.program.now held.tables k ran c.args.floor c.leaps.activation layers
          rows.operands rows.locals c.lead_on.new.activation c.lead_on.new.layers c.lead_on.new.rows.operands
          c.lead_on.new.rows.locals c.in-Some.led) (sym same) c.in-Some.ensures.leads)
          (led_part c.args.program.now rules owed due c.args.held.now c.args.turns c.leaps.left
          c.leaps.invariant.within c.leaps.held held c.args.floor c.leaps.invariant.fuel free c.leaps.activation
          c.leaps.layers layers old.operands c.enter_ahead-ahead.new.operands rows.operands old.locals rows.locals
          c.leaps.code.now c.leaps.height c.enter_ahead-ahead.result.led ran
          (c.leaps.invariant.leads rules owed same free) e.enters e.left
          (c.perform_part-ran.ensures.leads rules.frames) c.perform_part-ran.ensures.left);
    }

pub leaps-smaller : goal.leaps-smaller
leaps-smaller c =
    let rows = c.perform_part-ran.new.rows in
    let layers = c.enter_ahead-ahead.new.layers in
    omega (
      arith,
      led_fewer c.args.program.now c.perform_part-ran.new.held.tables c.args.frames c.perform_part-ran.result
          c.args.floor c.leaps.activation c.lead_on.new.activation layers c.lead_on.new.layers rows.operands
          c.lead_on.new.rows.operands rows.locals c.lead_on.new.rows.locals c.in-Some.led c.in-Some.ensures.leads,
      c.perform_part-ran.ensures.left,
      c.enter_ahead-ahead.ensures.left,
      c.enter_ahead-ahead.ensures.few,
    )

pub returns-in_default-clause-within : goal.returns-in_default-clause-within
returns-in_default-clause-within c =
    subst (λ xs. IsWithin c.perform_part-ran.result.framed xs) (sym c.in_default.ensures.none.operands)
    c.perform_part-ran.ensures.within
