use Rattle.std.proofs.Common.{ap}
use Rattle.wasm_call.specs.Room.{takes_memory}
use Rattle.wasm_call.proofs.RoomLemmas.{taken}
use Rattle.wasm_call.proofs.operations.perform_unread.Goals as goal

pub returns-in-MemoryRead-clause-performed : goal.returns-in-MemoryRead-clause-performed
returns-in-MemoryRead-clause-performed g c =
    rw c.in-MemoryRead.is (c.read_memory.ensures c.args.limit c.requires.some_turns)

pub returns-in-TableGet-clause-performed : goal.returns-in-TableGet-clause-performed
returns-in-TableGet-clause-performed g c =
    rw c.in-TableGet.is (c.get_element.ensures c.args.limit c.requires.some_turns)

pub returns-in-GlobalGet-clause-performed : goal.returns-in-GlobalGet-clause-performed
returns-in-GlobalGet-clause-performed g c =
    rw c.in-GlobalGet.is (c.get_global.ensures c.args.limit c.requires.some_turns)

pub returns-in-GetFuel-clause-performed : goal.returns-in-GetFuel-clause-performed
returns-in-GetFuel-clause-performed g c =
    rw c.in-GetFuel.is (c.get_fuel.ensures c.args.limit c.requires.some_turns)

-- an operation that may take memory
pub returns-in-MemoryNew-clause-room : goal.returns-in-MemoryNew-clause-room
returns-in-MemoryNew-clause-room g c = taken _ _ (ap takes_memory c.in-MemoryNew.is)

pub returns-in-MemoryRead-clause-room : goal.returns-in-MemoryRead-clause-room
returns-in-MemoryRead-clause-room g c = taken _ _ (ap takes_memory c.in-MemoryRead.is)

pub returns-in-MemoryGrow-clause-room : goal.returns-in-MemoryGrow-clause-room
returns-in-MemoryGrow-clause-room g c = taken _ _ (ap takes_memory c.in-MemoryGrow.is)

pub returns-in-TableNew-clause-room : goal.returns-in-TableNew-clause-room
returns-in-TableNew-clause-room g c = taken _ _ (ap takes_memory c.in-TableNew.is)

pub returns-in-TableGet-clause-room : goal.returns-in-TableGet-clause-room
returns-in-TableGet-clause-room g c = taken _ _ (ap takes_memory c.in-TableGet.is)

pub returns-in-TableGrow-clause-room : goal.returns-in-TableGrow-clause-room
returns-in-TableGrow-clause-room g c = taken _ _ (ap takes_memory c.in-TableGrow.is)

pub returns-in-GlobalNew-clause-room : goal.returns-in-GlobalNew-clause-room
returns-in-GlobalNew-clause-room g c = taken _ _ (ap takes_memory c.in-GlobalNew.is)

pub returns-in-GlobalGet-clause-room : goal.returns-in-GlobalGet-clause-room
returns-in-GlobalGet-clause-room g c = taken _ _ (ap takes_memory c.in-GlobalGet.is)

pub returns-in-TagNew-clause-room : goal.returns-in-TagNew-clause-room
returns-in-TagNew-clause-room g c = taken _ _ (ap takes_memory c.in-TagNew.is)
