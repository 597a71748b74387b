use Rattle.std.proofs.Common.{◌≤◌, ◌+◌, ◌-◌, ◌∷◌, length, get_or, drop, refl, ap, sym, ◌∙◌, arith}
use Rattle.std.proofs.lemmas.List.{length-reverse, drop_all}
use Rattle.std.specs.Prelude.{reverse, take, vec_len}
use Rattle.code_stack.specs.Cuts.{segments}
use Rattle.code_stack.proofs.CutLemmas.{length_segments, end_within, joined_kept, joined_view}
use Rattle.code_stack.proofs.row.Row.join.Goals as goal

pub returns-then-skipped-known : goal.returns-then-skipped-known
returns-then-skipped-known c =
    let row = c.self.inside in
    let hs = reverse row.starts.items in
    let ys = take row.start (take row.height row.items.items) in
    let few : length (segments hs ys) ≤ c.args.skipped =
    omega (
      arith,
      length_segments hs ys,
      length-reverse row.starts.items,
      c.len-known.ensures,
      row.starts.ok.0,
      c.if-skipped-known.true,
    ) in
    (ap (λ v. drop c.args.skipped v.before) (sym c.self.view_is) ∙ drop_all c.args.skipped (segments hs ys) few, refl)

pub overflow_add-self : goal.overflow_add-self
overflow_add-self c =
    let row = c.self.inside in
    let fits : c.place-end.result + c.args.count ≤ row.height =
    end_within row.items.items row.starts.items row.height row.start c.args.skipped c.args.count c.place-end.result
    c.place-start.result c.len-known.result (vec_len row.items - row.height) c.args.self.now
    (c.len-known.ensures ∙ row.starts.ok.0) c.if-skipped-known.false c.self.invariant c.self.view_is c.requires
    (c.place-end.ensures
    ∙ ap (λ l. get_or (row.start ∷ reverse l) c.args.skipped c.place-end.result) c.as_slice.ensures.value)
    (c.place-start.ensures
    ∙ ap (λ l. get_or (row.start ∷ reverse l) (c.args.skipped + 1) c.place-start.result) c.as_slice-2.ensures.value) in
    omega (arith, fits)

pub copy_within-requires-clause-there : goal.copy_within-requires-clause-there
copy_within-requires-clause-there c =
    let row = c.self.inside in
    let fits : c.place-end.result + c.args.count ≤ row.height =
    end_within row.items.items row.starts.items row.height row.start c.args.skipped c.args.count c.place-end.result
    c.place-start.result c.len-known.result (vec_len row.items - row.height) c.args.self.now
    (c.len-known.ensures ∙ row.starts.ok.0) c.if-skipped-known.false c.self.invariant c.self.view_is c.requires
    (c.place-end.ensures
    ∙ ap (λ l. get_or (row.start ∷ reverse l) c.args.skipped c.place-end.result) c.as_slice.ensures.value)
    (c.place-start.ensures
    ∙ ap (λ l. get_or (row.start ∷ reverse l) (c.args.skipped + 1) c.place-start.result) c.as_slice-2.ensures.value) in
    omega (arith, fits, row.items.ok.0, c.self.invariant.0)

pub invariant_of-self : goal.invariant_of-self
invariant_of-self c =
    let row = c.self.inside in
    joined_kept row.items.items row.starts.items row.height row.start c.args.skipped c.args.count c.place-end.result
    c.place-start.result c.len-known.result (vec_len row.items - row.height) c.args.self.now
    (c.len-known.ensures ∙ row.starts.ok.0) c.if-skipped-known.false c.self.invariant c.self.view_is c.requires
    (c.place-end.ensures
    ∙ ap (λ l. get_or (row.start ∷ reverse l) c.args.skipped c.place-end.result) c.as_slice.ensures.value)
    (c.place-start.ensures
    ∙ ap (λ l. get_or (row.start ∷ reverse l) (c.args.skipped + 1) c.place-start.result) c.as_slice-2.ensures.value)
    c.copy_within.new.items.items c.truncate.new.self.items 0 c.copy_within.ensures.items c.truncate.ensures.items

pub returns : goal.returns
returns c =
    let row = c.self.inside in
    joined_view row.items.items row.starts.items row.height row.start c.args.skipped c.args.count c.place-end.result
    c.place-start.result c.len-known.result (vec_len row.items - row.height) c.args.self.now
    (c.len-known.ensures ∙ row.starts.ok.0) c.if-skipped-known.false c.self.invariant c.self.view_is c.requires
    (c.place-end.ensures
    ∙ ap (λ l. get_or (row.start ∷ reverse l) c.args.skipped c.place-end.result) c.as_slice.ensures.value)
    (c.place-start.ensures
    ∙ ap (λ l. get_or (row.start ∷ reverse l) (c.args.skipped + 1) c.place-start.result) c.as_slice-2.ensures.value)
    c.copy_within.new.items.items c.truncate.new.self.items
    (vec_len c.copy_within.new.items - (c.place-end.result + c.args.count)) c.copy_within.ensures.items
    c.truncate.ensures.items
