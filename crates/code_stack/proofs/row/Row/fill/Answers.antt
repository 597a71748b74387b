use Rattle.std.proofs.Common.{◌≡◌, ◌-◌, ◌++◌, length, take, drop, ap, ◌∙◌, arith, length-drop}
use Rattle.std.specs.Prelude.{reverse, vec_len}
use Rattle.code_stack.specs.Cuts.{row_parts, cut}
use Rattle.code_stack.proofs.CutLemmas.{filled}
use Rattle.code_stack.proofs.row.Row.fill.Goals as goal

pub returns : goal.returns
returns c =
    let row = c.self.inside in
    let xs = row.items.items in
    let top = c.len-self-inside.result in
    let spare = drop row.height xs in
    let top_is : top ≡ length xs = c.len-self-inside.ensures ∙ row.items.ok.0 in
    let none : vec_len row.items - top ≡ 0 = omega (arith, c.len-self-inside.ensures) in
    let long : length spare ≡ c.args.self.now.room =
    omega (arith, length-drop row.height xs, row.items.ok.0, ap (λ v. v.room) c.self.view_is) in (
      spare,
      long,
      ap (cut row.start (reverse row.starts.items) (take top xs)) none
          ∙ filled xs row.start row.height (reverse row.starts.items) top 0 top_is c.self.invariant.1
          ∙ ap (λ v. row_parts (v.last ++ spare) v.before 0) c.self.view_is,
    )
