use Rattle.std.proofs.Common.{◌∙◌}
use Rattle.tape_values.proofs.StoreLemmas.{id_given}
use Rattle.tape_values.proofs.store_numbers.store_id.Goals as goal

pub returns-in-Some-allocate : goal.returns-in-Some-allocate
returns-in-Some-allocate c =
    id_given c.args.number c.in-Some-allocate.id (c.in-Some-allocate.ensures.given.0 ∙ c.starting_at-ids.ensures ∙ c.in-Some.ensures)
