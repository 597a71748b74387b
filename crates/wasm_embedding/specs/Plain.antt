-- The plain engine: its number is 1, it consumes no fuel and reads no epochs, 1,024 functions may be open, and a command
-- has 1,000,000 turns. This project's own.
use Rattle.std.specs.Prelude.{false}
use Rattle.spec_machine.specs.Machine.{EngineParts}
use Rattle.store_state.specs.Engines.{parts}

abbrev pub plain_parts : EngineParts
plain_parts = parts 1 false false 1024 1000000
