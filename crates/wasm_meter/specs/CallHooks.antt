-- The events of a call hook: this project's own, as those of the wasmtime crate.
use Rattle.std.specs.Prelude.{Bool, true, false}
use Rattle.wasm_meter.specs.declared.call_hook.CallHook.{CallHook}
use Rattle.wasm_meter.specs.declared.call_hook.CallHook.TheVariants.{CallingWasm, ReturningFromWasm, CallingHost, ReturningFromHost}

-- host code runs next
abbrev pub enters_host : CallHook → Bool
enters_host CallingWasm = false
enters_host ReturningFromWasm = true
enters_host CallingHost = true
enters_host ReturningFromHost = false

-- host code ran last
abbrev pub exits_host : CallHook → Bool
exits_host CallingWasm = true
exits_host ReturningFromWasm = false
exits_host CallingHost = false
exits_host ReturningFromHost = true
