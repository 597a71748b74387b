use Rattle.std.proofs.Common.{◌≡◌, drop}
use Rattle.std.specs.List.{AllByRecursion}
use Rattle.tape_values.specs.Writing.{all_written}
use Rattle.tape_values.proofs.ListLemmas.{then_joined}
use Rattle.tape_values.proofs.lists.list_value.Given as goal

pub record Written (goes : Type 0) (ranged : Type 0) : Type 0 where
  pub goes_on : goes
  pub within : ranged

abbrev pub invariant-loop-item : goal.invariant-loop-item
invariant-loop-item g l =
    let f = g.W.JsonWriter.meaning l.writer in
    let range = g.W.JsonWriter.range l.writer in
    let rest = drop l.item-index l.items in
    Written (all_written f l.items ≡ then_joined l.values.items (all_written f rest)) (AllByRecursion range rest → AllByRecursion range l.items)
