-- A growth by the parts that code has of it.
use Rattle.std.specs.Prelude.{ℕ, Option}
use Rattle.wasm_meter.specs.Growths.{Growth}
use Rattle.store_state.specs.Growing.{growing_of}
use Rattle.store_state.specs.declared.growth.Growable.{Growable}

abbrev pub growth : Growable → ℕ → ℕ → Option ℕ → Growth
growth object current desired maximum =
    record { object = growing_of object; current = current; desired = desired; maximum = maximum }
