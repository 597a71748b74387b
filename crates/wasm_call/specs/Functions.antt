-- A new function of the host: whether what its body may name is of its store. This project's own.
use Rattle.std.specs.Prelude.{Bool, true, Option, Some, None}
use Rattle.wasm_values.specs.declared.externals.Extern.{Extern}
use Rattle.spec_machine.specs.Machine.{Machine}
use Rattle.spec_machine.specs.Values.{owns_extern}

-- an object, where there is one, is of the store
abbrev pub owns_object : Machine → Option Extern → Bool
owns_object m (Some object) = owns_extern m object
owns_object m None = true
