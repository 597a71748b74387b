-- Instantiation by names: the machine's instantiation on the objects that a linker has for the imports.
-- WebAssembly core specification, "Execution, modules, instantiation"; the names are this project's own
use Rattle.std.specs.Prelude.{◌≡◌, ◌⊎◌, List, [], ⊤, Result, Ok, Err}
use Rattle.wasm_syntax.specs.declared.declarations.ModuleDecl.{ModuleDecl}
use Rattle.wasm_values.specs.declared.externals.Extern.{Extern}
use Rattle.wasm_values.specs.declared.handles.Instance.{Instance}
use Rattle.wasm_values.specs.declared.refusals.Refusal.{Refusal}
use Rattle.spec_machine.specs.Commands.{Instantiate}
use Rattle.spec_machine.specs.Machine.{Machine}
use Rattle.law_causes.specs.Causes.{GrowsInVain}
use Rattle.linker_map.specs.Faults.{told_fault}
use Rattle.linker_map.specs.declared.faults.LinkFault.{LinkFault}
use Rattle.linker_map.specs.declared.faults.LinkFault.TheVariants.{OutOfMemory, Refused}
use Rattle.wasm_call.specs.Confined.{InstantiationConfined}
use Rattle.wasm_call.specs.Outside.{Moving, Surrounded}
use Rattle.wasm_instance.specs.Imports.{Refuses}
use Rattle.wasm_instance.specs.Instances.{IsUntouched, Instantiated}

abbrev pub told : {A : Type 0} → Result A Refusal → Result A LinkFault
told (Ok a) = Ok a
told (Err why) = Err (told_fault why)

-- what an instantiation over these objects answers, told by a linker, and what it leaves
pub record Tells {T H E : Type 0} (moves : Moving T H E) (d : ModuleDecl) (items : List Extern) (old : Surrounded T H E)
    (result : Result Instance LinkFault) (new : Surrounded T H E) : Type 0 where
  pub answer : Result Instance Refusal
  pub told_so : result ≡ told answer
  pub instantiated : Instantiated moves d items old answer new

-- or there was no memory for a list of the objects
abbrev pub Links : {T H E : Type 0} → Moving T H E → ModuleDecl → List Extern → Surrounded T H E →
    Result Instance LinkFault → Surrounded T H E → Type 0
Links moves d items old result new =
    (IsUntouched old new × (result ≡ Err OutOfMemory)) ⊎ Tells moves d items old result new

-- an instantiation over these objects, told by a linker, kept to what leads from them
pub record TellsConfined {T H E : Type 0} (moves : Moving T H E) (d : ModuleDecl) (items : List Extern)
    (old : Surrounded T H E) (result : Result Instance LinkFault) (new : Surrounded T H E) : Type 0 where
  pub answer : Result Instance Refusal
  pub told_so : result ≡ told answer
  pub confined : InstantiationConfined moves d items old answer new

-- or there was no memory for a list of the objects, and nothing is changed
abbrev pub LinksConfined : {T H E : Type 0} → Moving T H E → ModuleDecl → List Extern → Surrounded T H E →
    Result Instance LinkFault → Surrounded T H E → Type 0
LinksConfined moves d items old result new =
    (IsUntouched old new × (result ≡ Err OutOfMemory)) ⊎ TellsConfined moves d items old result new

-- the fault that tells the refusal that is due, or want of memory
pub record RefusesItems (due : Result ⊤ Refusal) (why : LinkFault) : Type 0 where
  pub cause : Refusal
  pub told_so : why ≡ told_fault cause
  pub refuses : Refuses due cause

-- where a fault tells a refusal, this is so of that refusal
abbrev pub OfRefusal : (Refusal → Type 0) → LinkFault → Type 0
OfRefusal Says (Refused why) = Says why
OfRefusal Says fault = Unit {0}

-- a memory or a table of the module cannot have its minimum, whatever is given for its imports
abbrev pub MakesInVain : Machine → ModuleDecl → Type 0
MakesInVain m d = GrowsInVain m (Instantiate d [])
