use Rattle.std.proofs.Common.{◌≡◌, ◌≤◌, ◌+◌, ◌-◌, length, take, drop, ap, sym, ◌∙◌, arith, length-drop}
use Rattle.std.proofs.lemmas.List.{length-take-le, take-take}
use Rattle.std.specs.Prelude.{reverse, vec_len}
use Rattle.code_stack.specs.Cuts.{row_parts, segments, cut}
use Rattle.code_stack.proofs.CutLemmas.{kept_row}
use Rattle.code_stack.proofs.row.Row.keep.Goals as goal

pub returns : goal.returns
returns c =
    let row = c.self.inside in
    let top = row.height in
    let s = row.start in
    let hs = reverse row.starts.items in
    let xs = take top row.items.items in
    let n = c.args.count in
    let room = vec_len row.items - (s + n) in
    let long = length-take-le top row.items.items c.self.invariant.0 in
    let in_last : n ≤ length xs - s =
    omega (arith, c.requires, ap (λ v. length v.last) c.self.view_is, length-drop s xs) in
    let low : s + n ≤ top = omega (arith, in_last, long, c.self.invariant.1.0) in
    let room_is : room ≡ (vec_len row.items - top) + (length (drop s xs) - n) =
    omega (arith, in_last, long, low, length-drop s xs, row.items.ok.0, c.self.invariant.0) in
    ap (λ l. cut s hs l room) (sym (take-take (s + n) top row.items.items low)) ∙ kept_row xs s hs room n room
    ∙ ap (λ r. row_parts (take n (drop s xs)) (segments hs (take s xs)) r) room_is
    ∙ ap (λ v. row_parts (take n v.last) v.before (v.room + (length v.last - n))) c.self.view_is
