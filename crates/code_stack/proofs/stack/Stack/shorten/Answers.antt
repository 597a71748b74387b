use Rattle.std.proofs.Common.{◌-◌, ◌≤◌, length, take, drop, ap, ◌∙◌, arith}
use Rattle.std.proofs.lemmas.List.{length-reverse}
use Rattle.std.specs.Prelude.{reverse}
use Rattle.code_stack.proofs.CutLemmas.{reverse_rest}
use Rattle.code_stack.proofs.stack.Stack.shorten.Goals as goal

pub returns : goal.returns
returns g c =
    let items = c.self.inside.items.items in
    let le : c.args.count ≤ length items =
    omega (arith, c.requires, ap length c.self.view_is, length-reverse items) in
    let kept = c.len.result - c.args.count in
    ap reverse c.truncate.ensures.items
    ∙ ap (λ k. reverse (take (k - c.args.count) items)) (c.len.ensures ∙ c.self.inside.items.ok.0)
    ∙ reverse_rest c.args.count items le ∙ ap (drop c.args.count) c.self.view_is
