-- What a load and a call of a guest come to, where its checks have passed. This project's own.
use Rattle.std.specs.Prelude.{◌≡◌, ◌⊎◌, ℕ, Bool, List, [], ◌∷◌, ◌++◌, length, ⊤, Option, Result, Ok, Err}
use Rattle.wasm_syntax.specs.declared.declarations.ModuleDecl.{ModuleDecl}
use Rattle.wasm_values.specs.Handles.{instance_index}
use Rattle.wasm_values.specs.declared.externals.Extern.{Extern}
use Rattle.wasm_values.specs.declared.handles.Func.{Func}
use Rattle.wasm_values.specs.declared.handles.Instance.{Instance}
use Rattle.wasm_values.specs.declared.refusals.Refusal.{Refusal}
use Rattle.wasm_values.specs.declared.values.Val.{Val}
use Rattle.spec_machine.specs.Machine.{Machine}
use Rattle.law_plugins.specs.Showing.{ShowsStep}
use Rattle.host_shown.specs.declared.shown.Shown.{Shown}
use Rattle.wasm_call.specs.Calls.{call_row, Returned, Failed}
use Rattle.wasm_call.specs.Outside.{Growths, Hooks, Behaves, Readings, Steps, Moving, Surrounded, asked}
use Rattle.wasm_instance.specs.Instances.{IsUntouched, Instantiated}
use Rattle.wasm_plugins.specs.Guests.{told_fault}
use Rattle.wasm_plugins.specs.declared.faults.PluginFault.{PluginFault}
use Rattle.wasm_plugins.specs.declared.faults.PluginFault.TheVariants as fault

-- whom a load and a call ask: what the host says is shown by what its bodies were shown
abbrev pub guarded : {T H E : Type 0} → Growths T → (H → ℕ → Bool) → Hooks T → Behaves T → Readings E → Steps H T →
    Moving T (Shown H) E
guarded growths has hooks behaves readings steps =
    asked growths (λ h body. has h.inner body) hooks behaves readings
    (λ h s body state cause view after say k t.
    ShowsStep steps h.inner h.faults s body state cause view after say k.inner k.faults t)

-- there was no memory before it began: but for the turns, all is as it was
abbrev pub RanShort : {T H E A : Type 0} → Surrounded T H E → Result A PluginFault → Surrounded T H E → Type 0
RanShort old result new = (result ≡ Err fault.OutOfMemory) × IsUntouched old new

-- ---- loads

-- the instance that was made is a guest behind those that were there; where none was made, there is no guest more
abbrev pub IsAdded : List ℕ → Result Instance Refusal → Result ℕ PluginFault → List ℕ → Type 0
IsAdded guests (Ok made) result after = (result ≡ Ok (length guests)) × (after ≡ guests ++ instance_index made ∷ [])
IsAdded guests (Err why) result after = (result ≡ Err (told_fault why)) × (after ≡ guests)

-- it is the instantiation of the module over these imports
pub record Makes {T H E : Type 0} (moves : Moving T H E) (d : ModuleDecl) (imports : List Extern)
    (old : Surrounded T H E) (guests : List ℕ) (result : Result ℕ PluginFault) (new : Surrounded T H E) (after : List ℕ) : Type 0 where
  pub answer : Result Instance Refusal
  pub instantiated : Instantiated moves d imports old answer new
  pub added : IsAdded guests answer result after

abbrev pub Loads : {T H E : Type 0} → Moving T H E → ModuleDecl → List Extern → Surrounded T H E → List ℕ →
    Result ℕ PluginFault → Surrounded T H E → List ℕ → Type 0
Loads moves d imports old guests result new after =
    RanShort old result new ⊎ Makes moves d imports old guests result new after

-- ---- calls

-- it is the call of the function on these arguments
abbrev pub Comes : {T H E : Type 0} → Moving T H E → Machine → Func → List Val → Option ℕ → Surrounded T H E →
    Result ⊤ Refusal → List Val → Surrounded T H E → Type 0
Comes moves m f params wanted old (Ok done) results new = Returned moves (call_row m f params wanted) old results new
Comes moves m f params wanted old (Err why) results new = Failed moves (call_row m f params wanted) old why new

abbrev pub told : Result ⊤ Refusal → Result ⊤ PluginFault
told (Ok done) = Ok done
told (Err why) = Err (told_fault why)

pub record Runs {T H E : Type 0} (moves : Moving T H E) (f : Func) (params : List Val) (wanted : Option ℕ)
    (old : Surrounded T H E) (result : Result ⊤ PluginFault) (results : List Val) (new : Surrounded T H E) : Type 0
  where
    pub answer : Result ⊤ Refusal
    pub comes : Comes moves old.store.machine f params wanted old answer results new
    pub told_so : result ≡ told answer

abbrev pub Calls : {T H E : Type 0} → Moving T H E → Func → List Val → Option ℕ → Surrounded T H E →
    Result ⊤ PluginFault → List Val → Surrounded T H E → Type 0
Calls moves f params wanted old result results new =
    RanShort old result new ⊎ Runs moves f params wanted old result results new
