-- What every command of valid code keeps, however it ends: each function and tag, each object's type, each instance's module
-- and what it names, and the value of each constant global.
-- WebAssembly core specification, "Soundness", store extension
use Rattle.std.specs.Prelude.{◌≡◌, ℕ, List, Option, Some}
use Rattle.wasm_types.specs.Each.{Each}
use Rattle.wasm_types.specs.FunctionParts.{params}
use Rattle.wasm_types.specs.Signatures.{Signature}
use Rattle.wasm_syntax.specs.Modules.{IsModule}
use Rattle.wasm_syntax.specs.declared.declarations.ModuleDecl.{ModuleDecl}
use Rattle.wasm_values.specs.declared.externals.Extern.{Extern}
use Rattle.wasm_objects.specs.declared.raw.RawVal.{RawVal}
use Rattle.spec_machine.specs.Names.{Scope}
use Rattle.spec_machine.specs.Values.{function_type}
use Rattle.spec_machine.specs.declared.command.Command.{Command}
use Rattle.law_store.specs.Later.{Extends}
use Rattle.law_store.specs.Rows.{IsTyped}
use Rattle.spec_execution.specs.Bodies.{exec}
use Rattle.spec_execution.specs.Commands.{command}
use Rattle.spec_execution.specs.Entering.{entry}
use Rattle.spec_execution.specs.Instantiation.{instantiate}
use Rattle.spec_execution.specs.Outcomes.{World}
use Rattle.law_code.specs.Laws.{MayBegin}
use Rattle.law_code.specs.Typed.{HaveTypes}
use Rattle.law_confined.specs.Laws.{left, left_by}

-- from a well-formed store, of each call on arguments of the parameters' types, each instantiation of a valid module and
-- each command over valid modules: whatever the turns and the answers, finished or stopped
pub record LawK : Type 0 where
  pub calls :
      (depth n : ℕ) (args : List RawVal) (caller : Option ℕ) (own : Signature) (w : World) → MayBegin w
      → function_type w.machine n ≡ Some own → HaveTypes w.machine (params own) args
      → Extends w.machine (left (entry exec depth n args caller w)).machine
  pub instantiations :
      (depth : ℕ) (w : World) (d : ModuleDecl) (imports : List Extern) → MayBegin w → IsModule d
      → Extends w.machine (left (instantiate exec depth w d imports)).machine
  pub commands :
      (modules : List ModuleDecl) (s : Scope) (c : Command) (w : World) → MayBegin w → Each modules IsModule → IsTyped c
      → Extends w.machine (left_by (command exec modules s c w)).machine
