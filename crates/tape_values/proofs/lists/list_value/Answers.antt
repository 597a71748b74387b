use Rattle.std.proofs.Common.{◌≡◌, ◌+◌, ◌++◌, ◌∷◌, [], drop, sym, ap, ◌∙◌, subst}
use Rattle.std.specs.List.{AllByRecursion}
use Rattle.serde_json.proofs.Views.{view-Array}
use Rattle.tape_values.specs.Writing.{all_written}
use Rattle.tape_values.proofs.ListLemmas.{then_joined, written-step, written-all, drop-first}
use Rattle.tape_values.proofs.lists.list_value.Goals as goal

pub loop-item-preserved : goal.loop-item-preserved
loop-item-preserved g c =
    let f = g.W.JsonWriter.meaning c.args.writer.now in
    let range = g.W.JsonWriter.range c.args.writer.now in
    let rest = drop (c.loop-item.item-index + 1) c.args.items.now in
    let here : drop c.loop-item.item-index c.args.items.now ≡ c.item-item.result ∷ rest =
    drop-first c.args.items.now c.loop-item.item-index c.item-item.result c.loop-item-test.true c.item-item.is in
    let more : c.push.new.self.items ≡ c.loop-item.values.items ++ c.in_ok-value.value ∷ [] = c.in_ok-push.ensures.items in
    record {
      goes_on =
          c.loop-item.invariant.goes_on
          ∙ ap (λ xs. then_joined c.loop-item.values.items (all_written f xs)) here
          ∙ written-step f c.item-item.result rest c.loop-item.values.items c.in_ok-value.value c.in_ok-value.ensures.written
          ∙ ap (λ vs. then_joined vs (all_written f rest)) (sym more);
      within = λ h. c.loop-item.invariant.within (subst (AllByRecursion range) (sym here) (c.in_ok-value.ensures.within, h));
    }

pub returns-clause-written : goal.returns-clause-written
returns-clause-written g c =
    rw (view-Array c.loop-item.values)
    (written-all (g.W.JsonWriter.meaning c.args.writer.now) c.args.items.now c.loop-item.item-index c.loop-item.values.items
    c.loop-item-test.false c.loop-item.invariant.goes_on)
