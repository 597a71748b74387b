-- Engines, as the machine has them.
use Rattle.std.specs.Prelude.{ℕ, Bool}
use Rattle.spec_machine.specs.Machine.{EngineParts}
use Rattle.store_state.specs.declared.engine.Engine.{Engine}

abbrev pub parts : ℕ → Bool → Bool → ℕ → ℕ → EngineParts
parts number consumes_fuel reads_epochs frames turns =
    record {
      number = number;
      consumes_fuel = consumes_fuel;
      reads_epochs = reads_epochs;
      frames = frames;
      turns
          = turns;
    }

abbrev pub engine_parts : Engine → EngineParts
engine_parts e = parts e.id.0 e.consume_fuel e.epoch_interruption e.frames e.turns
