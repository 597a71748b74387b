-- Memory that runs out while the exports of an instance are defined. This project's own.
use Rattle.std.specs.Prelude.{◌≡◌, ℕ, List, ◌∷◌, ◌++◌, Ok}
use Rattle.wasm_values.specs.declared.handles.Instance.{Instance}
use Rattle.spec_machine.specs.InstanceCalls.{instance_at}
use Rattle.spec_machine.specs.Machine.{Machine, InstanceParts}
use Rattle.linker_map.specs.Linkers.{LinkerParts, Entry}
use Rattle.wasm_linker.specs.Defining.{exports_of, with_items}

-- it ran out at one of these entries: those before it are defined, and nothing else
pub record DefinesFront (space : List ℕ) (es : List Entry) (old new : LinkerParts) : Type 0 where
  pub front : List Entry
  pub at : Entry
  pub rest : List Entry
  pub whole : front ++ at ∷ rest ≡ es
  pub defined : new ≡ with_items space front old

-- the same of the exports of an instance, which is there
pub record DefinesFirstExports (m : Machine) (space : List ℕ) (instance : Instance) (old new : LinkerParts) : Type 0 where
  pub parts : InstanceParts
  pub there : instance_at m instance ≡ Ok parts
  pub front : DefinesFront space (exports_of m parts) old new
