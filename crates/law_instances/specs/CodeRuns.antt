-- What code that a host calls, or that an instantiation runs, leaves of every object, however it ends.
-- WebAssembly core specification, "Soundness", preservation, store extension
use Rattle.std.specs.Prelude.{◌≡◌, ℕ, List, Option, Ok}
use Rattle.wasm_syntax.specs.Modules.{IsModule}
use Rattle.wasm_syntax.specs.declared.declarations.ModuleDecl.{ModuleDecl}
use Rattle.wasm_values.specs.declared.externals.Extern.{Extern}
use Rattle.wasm_values.specs.declared.handles.Func.{Func}
use Rattle.wasm_values.specs.declared.values.Val.{Val}
use Rattle.spec_machine.specs.FunctionCalls.{Called, called}
use Rattle.spec_machine.specs.Machine.{Machine}
use Rattle.law_store.specs.Laws.{KeepsObjects}
use Rattle.spec_execution.specs.Bodies.{exec}
use Rattle.spec_execution.specs.Instantiation.{instantiate}
use Rattle.spec_execution.specs.Outcomes.{World, Outcome, Values, Branch, Return, Over}
use Rattle.spec_execution.specs.Runs.{outermost_call}
use Rattle.law_code.specs.Laws.{MayBegin}

-- the store that code leaves, whatever it came to
abbrev pub left_by : Outcome → Machine
left_by (Values s) = s.world.machine
left_by (Branch l s) = s.world.machine
left_by (Return s) = s.world.machine
left_by (Over e w) = w.machine

-- a call by a host: each handle gives its type, no memory or table is smaller, a constant global has its value and an
-- instance its exports
abbrev pub CallsKeepObjects : Type 0
CallsKeepObjects =
    (w : World) (f : Func) (args : List Val) (wanted : Option ℕ) (c : Called) → MayBegin w →
    called w.machine f args wanted ≡ Ok c → KeepsObjects w.machine (left_by (outermost_call w c))

-- an instantiation of a module
abbrev pub InstantiationsKeepObjects : Type 0
InstantiationsKeepObjects =
    (w : World) (depth : ℕ) (d : ModuleDecl) (imports : List Extern) → MayBegin w → IsModule d →
    KeepsObjects w.machine (left_by (instantiate exec depth w d imports))
