use Rattle.std.proofs.Common.{refl, ap, Some}
use Rattle.memory_streams.specs.InRoom.{RoomState, SliceState}
use Rattle.binary_bytes.proofs.HeldLemmas.{not_rose, held_run}
use Rattle.binary_bytes.proofs.runs.run_held.Goals as goal

pub returns-clause-room : goal.returns-clause-room
returns-clause-room c =
    let told = ap (λ (s : SliceState). Some s.left) c.new-source.ensures in
    (held_run c.new-epochs.result c.run_main.new.epochs c.args.sink.now c.run_main.new.sink _ c.run_main.result
    c.new-epochs.ensures c.requires (c.run_main.ensures.says c.args.guest.now told)).0

pub returns-clause-says : goal.returns-clause-says
returns-clause-says c =
    let told = ap (λ (s : SliceState). Some s.left) c.new-source.ensures in (
      c.run_main.new.epochs,
      (held_run c.new-epochs.result c.run_main.new.epochs c.args.sink.now c.run_main.new.sink _ c.run_main.result
          c.new-epochs.ensures c.requires (c.run_main.ensures.says c.args.guest.now told)).1,
    )

pub returns-clause-decided : goal.returns-clause-decided
returns-clause-decided c = λ decided.
    c.run_main.ensures.decided c.args.guest.now (ap (λ (s : SliceState). Some s.left) c.new-source.ensures) decided

pub returns-clause-complete : goal.returns-clause-complete
returns-clause-complete c = λ room.
    c.run_main.ensures.complete c.args.guest.now (ap (λ (s : SliceState). Some s.left) c.new-source.ensures)
    (not_rose 0 0 refl refl)
    (not_rose c.args.sink.now.faults c.run_main.new.sink.faults (ap (λ (s : RoomState). s.faults) c.requires)
    (c.run_main.ensures.sink_uncounted room))

pub returns-clause-reads : goal.returns-clause-reads
returns-clause-reads c = λ read. not_rose 0 0 refl refl (c.run_main.ensures.read_fault read)
