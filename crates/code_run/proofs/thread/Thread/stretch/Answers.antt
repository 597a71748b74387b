use Rattle.std.proofs.Common.{◌≤◌, ◌+◌, ◌-◌, [], length, refl, subst, arith}
use Rattle.spec_execution.specs.Outcomes.{Over, Trapped, Stuck}
use Rattle.code_straight.specs.Frames.{IsWithin}
use Rattle.code_straight.specs.declared.frames.Framed.{Framed}
use Rattle.code_leaps.specs.Bursts.{behind}
use Rattle.code_stack.specs.Layers.{means}
use Rattle.code_leaps.specs.Leaps.{amid, placed}
use Rattle.code_leaps.specs.Leading.{at, Leads}
use Rattle.code_leaps.specs.Running.{ruled, charged}
use Rattle.code_run.specs.Steps.{seen}
use Rattle.code_leaps.proofs.LoopLemmas.{free_of}
use Rattle.code_leaps.proofs.PartLemmas.{leads_from, leads_into}
use Rattle.code_run.proofs.StretchLemmas.{lent_means, kept_means}
use Rattle.code_run.proofs.thread.Thread.stretch.Goals as goal

pub returns-in-Goes-clause-stretches : goal.returns-in-Goes-clause-stretches
returns-in-Goes-clause-stretches c = λ rules owed same free.
    let g = ruled c.args.program.now rules in
    let rows = c.lend-rows.result.now in
    let start = charged rules.consumes_fuel c.args.held.now owed in
    let spent = c.args.turns - c.perform_leaps-ran.result.left in
    let after = charged rules.consumes_fuel c.perform_leaps-ran.new.held (owed + spent) in
    let a = c.perform_leaps-ran.new.activation in
    let ls = c.perform_leaps-ran.new.layers in
    let row = c.perform_leaps-ran.new.rows.operands in
    let own = c.perform_leaps-ran.new.rows.locals in
    let code = c.perform_leaps-ran.result.rest.now in
    let first = means (placed c.args.self.now.activation c.args.self.now.layers rows.operands rows.locals.before
    c.args.self.now.code.now c.height-height.result rows.locals.last) in
    let led : Leads g first start spent [] (means (placed a ls row own.before code c.in-Goes.height own.last)) after =
    subst (λ (f : Framed). Leads g first start spent [] (behind (amid a ls row own.before) code row.last own.last f) after)
    c.in-Goes.is
    (c.perform_leaps-ran.ensures.leads rules owed same
    (free_of rules c.args.held.now.fuel owed c.args.free (c.args.turns - c.saturating_sub.result) (omega arith) free)) in
    let within : c.in-Goes.height ≤ length row.last =
    subst (λ (f : Framed). IsWithin f row.last) c.in-Goes.is c.perform_leaps-ran.ensures.within in
    let kept = means (record { activation = a; code = code; layers = ls; values = c.keep.new.self }) in
    leads_from g (means (seen c.args.self.now)) first start
    (λ base b turns before answers. lent_means c.args.self.now c.fill.new.self c.fill.ensures.0 c.fill.ensures.2
    rows.operands rows.locals c.lend-rows.ensures.operands c.lend-rows.ensures.locals c.lend-rows.ensures.below
    rows.locals.last refl c.height-height.result c.height-height.ensures (at g base start turns before answers)) spent [] kept after
    (leads_into g first start spent [] (means (placed a ls row own.before code c.in-Goes.height own.last)) kept after led
    (λ base b turns before answers. kept_means c.args.self.now c.fill.new.self c.fill.ensures.0 c.fill.ensures.2
    rows.operands rows.locals c.lend-rows.ensures.operands c.lend-rows.ensures.locals c.lend-rows.ensures.below
    rows.locals.last refl row own c.in-Goes.height within c.keep.new.self c.keep.ensures a ls code
    (at g base after turns before answers)))

pub returns-in-Traps-clause-stretches : goal.returns-in-Traps-clause-stretches
returns-in-Traps-clause-stretches c = λ rules owed same free.
    let g = ruled c.args.program.now rules in
    let rows = c.lend-rows.result.now in
    let start = charged rules.consumes_fuel c.args.held.now owed in
    let spent = c.args.turns - c.perform_leaps-ran.result.left in
    let after = charged rules.consumes_fuel c.perform_leaps-ran.new.held (owed + spent) in
    let a = c.perform_leaps-ran.new.activation in
    let ls = c.perform_leaps-ran.new.layers in
    let row = c.perform_leaps-ran.new.rows.operands in
    let own = c.perform_leaps-ran.new.rows.locals in
    let code = c.perform_leaps-ran.result.rest.now in
    let first = means (placed c.args.self.now.activation c.args.self.now.layers rows.operands rows.locals.before
    c.args.self.now.code.now c.height-height.result rows.locals.last) in
    let led : Leads g first start spent [] (λ w. Over (Trapped c.in-Traps.trap) w) after =
    subst (λ (f : Framed). Leads g first start spent [] (behind (amid a ls row own.before) code row.last own.last f) after)
    c.in-Traps.is
    (c.perform_leaps-ran.ensures.leads rules owed same
    (free_of rules c.args.held.now.fuel owed c.args.free (c.args.turns - c.saturating_sub.result) (omega arith) free)) in
    leads_from g (means (seen c.args.self.now)) first start
    (λ base b turns before answers. lent_means c.args.self.now c.fill.new.self c.fill.ensures.0 c.fill.ensures.2
    rows.operands rows.locals c.lend-rows.ensures.operands c.lend-rows.ensures.locals c.lend-rows.ensures.below
    rows.locals.last refl c.height-height.result c.height-height.ensures (at g base start turns before answers)) spent [] (λ w. Over (Trapped c.in-Traps.trap) w) after led

pub returns-in-Sticks-clause-stretches : goal.returns-in-Sticks-clause-stretches
returns-in-Sticks-clause-stretches c = λ rules owed same free.
    let g = ruled c.args.program.now rules in
    let rows = c.lend-rows.result.now in
    let start = charged rules.consumes_fuel c.args.held.now owed in
    let spent = c.args.turns - c.perform_leaps-ran.result.left in
    let after = charged rules.consumes_fuel c.perform_leaps-ran.new.held (owed + spent) in
    let a = c.perform_leaps-ran.new.activation in
    let ls = c.perform_leaps-ran.new.layers in
    let row = c.perform_leaps-ran.new.rows.operands in
    let own = c.perform_leaps-ran.new.rows.locals in
    let code = c.perform_leaps-ran.result.rest.now in
    let first = means (placed c.args.self.now.activation c.args.self.now.layers rows.operands rows.locals.before
    c.args.self.now.code.now c.height-height.result rows.locals.last) in
    let led : Leads g first start spent [] (λ w. Over Stuck w) after =
    subst (λ (f : Framed). Leads g first start spent [] (behind (amid a ls row own.before) code row.last own.last f) after)
    c.in-Sticks.is
    (c.perform_leaps-ran.ensures.leads rules owed same
    (free_of rules c.args.held.now.fuel owed c.args.free (c.args.turns - c.saturating_sub.result) (omega arith) free)) in
    leads_from g (means (seen c.args.self.now)) first start
    (λ base b turns before answers. lent_means c.args.self.now c.fill.new.self c.fill.ensures.0 c.fill.ensures.2
    rows.operands rows.locals c.lend-rows.ensures.operands c.lend-rows.ensures.locals c.lend-rows.ensures.below
    rows.locals.last refl c.height-height.result c.height-height.ensures (at g base start turns before answers)) spent [] (λ w. Over Stuck w) after led
