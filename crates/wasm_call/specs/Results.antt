-- The store of a call, put together of what the call reads and what it changes. This project's own.
use Rattle.spec_machine.specs.Machine.{Machine}
use Rattle.store_state.specs.Engines.{engine_parts}
use Rattle.store_state.specs.Parts.{ProgramParts, HeldParts}
use Rattle.store_state.specs.declared.flags.Flags.{Flags}
use Rattle.store_objects.specs.Machines.{machine_of}
use Rattle.code_hosts.specs.declared.bounds.Bounds.{Bounds}
use Rattle.code_hosts.specs.declared.context.RunContext.{RunContext}

-- whom the store of a call asks
abbrev pub flags_of : Bounds → Flags
flags_of bounds =
    record { limited = bounds.rules.limited; hooked = bounds.hooked; behaving = bounds.rules.behaving }

-- the machine of these in a call
abbrev pub own_machine : RunContext → ProgramParts → HeldParts → Machine
own_machine c program held = machine_of c.id (engine_parts c.engine.now) (flags_of c.bounds) program held
