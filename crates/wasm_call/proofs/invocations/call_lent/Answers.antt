use Rattle.wasm_call.proofs.invocations.call_lent.Goals as goal

pub call_outside-requires-clause-kept : goal.call_outside-requires-clause-kept
call_outside-requires-clause-kept g c =
    rw (c.new-world.ensures.store, c.new-world.ensures.host, c.new-world.ensures.epochs) c.requires.kept

pub call_outside-requires-clause-fits : goal.call_outside-requires-clause-fits
call_outside-requires-clause-fits g c = record {
  is_ready = rw c.new-world.ensures.host c.requires.ready;
  program_is = rw c.new-world.ensures.program c.requires.program;
  store_fits = rw c.new-world.ensures.store c.requires.store;
}
