-- The first events that a hook was told of. All of it is this project's own.
use Rattle.std.specs.Prelude.{List, [], ◌∷◌, ◌++◌, length, nat_lt, if◌then◌else◌}
use Rattle.wasm_meter.specs.declared.call_hook.CallHook.{CallHook}

-- an event more, where there are not 64 yet
abbrev pub with_event : List CallHook → CallHook → List CallHook
with_event events event = if nat_lt (length events) 64 then events ++ event ∷ [] else events
