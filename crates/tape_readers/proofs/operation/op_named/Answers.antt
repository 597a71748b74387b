use Rattle.std.proofs.Common.{rules}
use Rattle.script_json.proofs.ReaderLemmas.{differs}
use Rattle.tape_readers.proofs.operation.op_named.Goals as goal

pub returns-in_default : goal.returns-in_default
returns-in_default c =
    let d = c.in_default in
    rw (
      differs _ _ d.not-memory_new,
      differs _ _ d.not-memory_read,
      differs _ _ d.not-memory_write,
      differs _ _ d.not-memory_size,
      differs _ _ d.not-memory_grow,
      differs _ _ d.not-table_new,
      differs _ _ d.not-table_get,
      differs _ _ d.not-table_set,
      differs _ _ d.not-table_size,
      differs _ _ d.not-table_grow,
      differs _ _ d.not-table_copy,
      differs _ _ d.not-table_fill,
      differs _ _ d.not-global_new,
      differs _ _ d.not-global_get,
      differs _ _ d.not-global_set,
      differs _ _ d.not-tag_new,
      differs _ _ d.not-get_export,
      differs _ _ d.not-get_fuel,
      differs _ _ d.not-set_fuel,
      differs _ _ d.not-yield_interval,
      differs _ _ d.not-set_epoch_deadline,
      differs _ _ d.not-call,
    ) (search rules)
