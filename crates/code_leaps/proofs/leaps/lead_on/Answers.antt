use Rattle.std.proofs.Common.{◌≡◌, ◌-◌, inr, nat_lt, subst, arith}
use Rattle.code_leaps.specs.Leaps.{placed, LeapsTo}
use Rattle.code_leaps.proofs.leaps.lead_on.Goals as goal

pub returns-clause-leads : goal.returns-clause-leads
returns-clause-leads c =
    let same : c.in_ok-left.left ≡ c.args.ran.left - 1 = omega (arith, c.in_ok-left.ensures) in
    let row = c.args.rows.now.operands in
    let own = c.args.rows.now.locals in
    let row' = c.lead_out.new.rows.operands in
    let own' = c.lead_out.new.rows.locals in
    let hop = c.in_ok-hop.hop in
    record {
      top = c.in-Goes.top;
      goes = c.in-Goes.is;
      leads = inr (
        omega (arith, c.in_ok-left.ensures),
        same,
        omega (arith, c.in_ok-hop.ensures.few),
        subst (λ n. LeapsTo c.args.program.now c.args.held.now.tables c.args.frames (nat_lt c.args.floor n)
            (placed c.args.activation.now c.args.layers.now row own.before c.args.ran.rest.now c.in-Goes.top own.last)
            (placed c.lead_out.new.activation c.lead_out.new.layers row' own'.before hop.code.now hop.height own'.last))
            same c.in_ok-hop.ensures.leaps,
      );
    }
