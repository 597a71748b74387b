use Rattle.std.proofs.Common.{◌≡◌, ℕ, ◌++◌, drop, subst, sym}
use Rattle.binary_bytes.proofs.runs.run_words.Goals as goal

pub returns-clause-ran : goal.returns-clause-ran
returns-clause-ran c =
    let held = c.run_held-status.new.sink.held in
    record {
      written = held;
      epochs = c.run_held-status.ensures.says.0;
      counted = c.len-count.ensures.count;
      room = subst (λ (n : ℕ). c.copy_to.new.out ≡ held ++ drop n c.args.out.now) (sym c.len-count.ensures.count) c.copy_to.ensures;
      says = c.run_held-status.ensures.says.1;
    }
