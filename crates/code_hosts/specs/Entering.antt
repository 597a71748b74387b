-- A call from outside of all code, on what a store holds. This project's own; WebAssembly core specification,
-- "Execution, modules, invocation".
use Rattle.std.specs.Prelude.{◌≡◌, ℕ, List, Option}
use Rattle.wasm_meter.specs.declared.call_hook.CallHook.TheVariants as event
use Rattle.wasm_objects.specs.declared.raw.RawVal.{RawVal}
use Rattle.spec_machine.specs.Machine.{Machine}
use Rattle.spec_execution.specs.Bodies.{exec}
use Rattle.spec_execution.specs.Checks.{pass_behind}
use Rattle.spec_execution.specs.Entering.{enter, entry}
use Rattle.code_leaps.specs.Leading.{Doing}
use Rattle.code_leaps.specs.Running.{IsRuled}
use Rattle.code_hosts.specs.declared.bounds.Bounds.{Bounds}

-- what holds of the rest of the store by the bounds of a call
pub record IsBounded (bounds : Bounds) (base : Machine) : Type 0 where
  pub ruled : IsRuled bounds.rules base
  pub hooked_is : base.is_hooked ≡ bounds.hooked

-- a function of a store, by its number, is entered with no function open, by code of an instance or by none
abbrev pub entering : ℕ → List RawVal → Option ℕ → Doing
entering n args caller w = enter exec 0 n args caller w

-- what is done, with the border behind it
abbrev pub returned : Doing → Doing
returned due w = pass_behind event.ReturningFromWasm (due w)

-- a function is entered with the borders before and behind it: it is called
abbrev pub calling : ℕ → List RawVal → Option ℕ → Doing
calling n args caller w = entry exec 0 n args caller w
