use Rattle.std.proofs.Common.{◌≡◌, ◌+◌, ◌-◌, refl, subst, sym, ◌∙◌, arith}
use Rattle.code_stack.specs.Layers.{means}
use Rattle.code_leaps.specs.Running.{ruled, charged}
use Rattle.code_run.specs.Spinning.{ahead_of, Spins}
use Rattle.code_run.specs.Steps.{seen}
use Rattle.code_run.proofs.thread.Thread.advance.Goals as goal

pub returns-in-Goes-clause-spins : goal.returns-in-Goes-clause-spins
returns-in-Goes-clause-spins c = λ owed free.
    let all : c.args.left - c.stretch-stretched.result.left + c.stretch-stretched.result.left ≡ c.args.left =
    omega (arith, c.stretch-stretched.ensures.left) in
    subst (λ n. Spins (ruled c.args.program.now c.args.rules) (means (seen c.args.self.now))
    (charged c.args.rules.consumes_fuel c.args.held.now owed) n
    (ahead_of c.take_next.result.beat c.take_next.new.self) c.take_next.result.spent (seen c.take_next.new.self)
    (charged c.args.rules.consumes_fuel c.take_next.new.held (owed + c.take_next.result.spent))) all
    (c.take_next.ensures.spins (means (seen c.args.self.now)) c.args.held.now owed
    (rw c.in-Goes.is at c.stretch-stretched.ensures.stretches c.args.rules owed refl free))

pub take_next-requires-clause-moves : goal.take_next-requires-clause-moves
take_next-requires-clause-moves c = λ e.
    omega (
      arith,
      c.stretch-stretched.ensures.left,
      λ (same : c.stretch-stretched.result.left ≡ c.args.left).
          c.requires (sym (c.stretch-stretched.ensures.still same) ∙ e),
    )
