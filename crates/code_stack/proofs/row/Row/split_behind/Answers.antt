use Rattle.std.proofs.Common.{◌≡◌, ◌≤◌, ◌+◌, ◌-◌, ◌∷◌, length, take, drop, ap, ◌∙◌, arith, length-drop}
use Rattle.std.specs.Prelude.{reverse, vec_len}
use Rattle.code_stack.specs.Cuts.{row_parts, cut}
use Rattle.code_stack.proofs.CutLemmas.{reverse_push, split_row}
use Rattle.code_stack.proofs.row.Row.split_behind.Goals as goal

pub returns-clause-done : goal.returns-clause-done
returns-clause-done c =
    let row = c.self.inside in
    let xs = take row.height row.items.items in
    let room = vec_len row.items - row.height in
    let kept = c.args.kept in
    let within = c.self.invariant.1.0 in
    let last = cut row.start (reverse row.starts.items) xs room in
    let n = length last.last - kept in
    let in_last : n ≤ length xs - row.start = omega (arith, length-drop row.start xs) in
    let fits : kept ≤ length last.last = omega (arith, c.requires, ap (λ v. length v.last) c.self.view_is) in
    let start_is : row.start + kept ≡ length xs - n = omega (arith, fits, length-drop row.start xs, within) in
    let kept_is : length last.last - n ≡ kept = omega (arith, fits) in
    ap (λ k. cut k (reverse c.push.new.self.items) xs room) start_is
    ∙ ap (λ l. cut (length xs - n) l xs room)
    (reverse_push row.starts.items c.push.new.self.items row.start c.in_ok-push.ensures.items)
    ∙ split_row xs row.start (reverse row.starts.items) room n in_last within
    ∙ ap (λ k. row_parts (drop k last.last) (take k last.last ∷ last.before) room) kept_is
    ∙ ap (λ v. row_parts (drop kept v.last) (take kept v.last ∷ v.before) v.room) c.self.view_is
