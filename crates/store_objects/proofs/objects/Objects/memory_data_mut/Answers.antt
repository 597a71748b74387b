use Rattle.store_objects.specs.contracts.objects.Objects.{the_view}
use Rattle.store_objects.proofs.LendingLemmas.{keeps_left}
use Rattle.store_objects.proofs.objects.Objects.memory_data_mut.Goals as goal

pub invariant_of-self-lent : goal.invariant_of-self-lent
invariant_of-self-lent c = keeps_left (the_view c.self.inside) c.self.invariant c.index-number.result
