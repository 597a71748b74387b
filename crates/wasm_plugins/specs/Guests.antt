-- A store with guests in it, and what is asked before one is loaded or called. This project's own.
use Rattle.std.specs.Prelude.{◌≡◌, ◌⊎◌, ℕ, suc, Bool, true, false, List, [], ◌∷◌, flat_map, if◌then◌else◌, ⊤, Option, Some, None, Result, Ok, Err, refl, slice_get}
use Rattle.std.specs.Coded.{Coded, code_by, coded×, coded_ℕ, coded_list}
use Rattle.std.specs.List.{list_all}
use Rattle.wasm_values.specs.Externals.{extern_func}
use Rattle.wasm_values.specs.Handles.{func_index, instance_of}
use Rattle.wasm_values.specs.declared.externals.Extern.{Extern}
use Rattle.wasm_values.specs.declared.handles.Func.{Func}
use Rattle.wasm_values.specs.declared.refusals.Refusal.{Refusal}
use Rattle.wasm_values.specs.declared.refusals.Refusal.TheVariants as refusal
use Rattle.wasm_values.specs.declared.values.Val.{Val}
use Rattle.wasm_values.specs.declared.values.Val.TheVariants as v
use Rattle.spec_machine.specs.Machine.{Machine}
use Rattle.spec_machine.specs.Values.{owns_extern, owns_val}
use Rattle.spec_reach.specs.Nodes.{Node as Reached, func, instance, memory, table, global, has}
use Rattle.spec_reach.specs.Reach.{in_object, reach}
use Rattle.store_objects.specs.declared.node.Node.{Node}
use Rattle.store_objects.specs.declared.node.Node.TheVariants as node
use Rattle.wasm_store.specs.Stores.{StoreParts, store_code}
use Rattle.law_plugins.specs.Meeting.{reach_of, first_meeting}
use Rattle.wasm_instance.specs.Exports.{export_as}
use Rattle.wasm_plugins.specs.declared.faults.PluginFault.{PluginFault}
use Rattle.wasm_plugins.specs.declared.faults.PluginFault.TheVariants as fault

-- the store, and the number of each guest's instance
pub record PluginsParts (T : Type 0) : Type 0 where
  pub store : StoreParts T
  pub guests : List ℕ

abbrev pub plugins_parts : {T : Type 0} → StoreParts T → List ℕ → PluginsParts T
plugins_parts store guests = record { store = store; guests = guests }

abbrev pub plugins_code : {T : Type 0} → Coded T → Coded (PluginsParts T)
plugins_code {T} code =
    code_by (StoreParts T × List ℕ) (coded× (store_code code) (coded_list coded_ℕ)) (λ p. (p.store, p.guests))
    (λ p. plugins_parts p.0 p.1) (λ _. refl)

-- a node as the code has it
abbrev pub of_reached : Reached → Node
of_reached (func n) = node.Func n
of_reached (instance n) = node.Instance n
of_reached (memory n) = node.Memory n
of_reached (table n) = node.Table n
of_reached (global n) = node.Global n

-- ---- before a load

-- what the imports lead to
abbrev pub import_reach : Machine → List Extern → List Reached
import_reach m imports = reach m (flat_map (in_object m.id) imports)

abbrev pub no_meeting : Option (ℕ × Reached) → Result ⊤ PluginFault
no_meeting None = Ok tt
no_meeting (Some p) = Err (fault.Meets p.0 (of_reached p.1))

-- each import is of the store, and they lead to nothing that a guest reaches
abbrev pub may_load : Machine → List ℕ → List Extern → Result ⊤ PluginFault
may_load m guests imports =
    if list_all (owns_extern m) imports then no_meeting (first_meeting m (import_reach m imports) guests)
    else Err (fault.Refused refusal.WrongStore)

-- ---- before a call

abbrev pub is_function : Val → Bool
is_function (v.FuncRef (Some f)) = true
is_function _ = false

-- no function is in a value but one of a set
abbrev pub is_within : List Reached → Val → Bool
is_within set (v.FuncRef (Some f)) = has set (func (func_index f))
is_within set _ = true

-- the place of the first value, from this place on, with a function that is none of a set
abbrev pub first_outside : List Reached → ℕ → List Val → Option ℕ
first_outside set place [] = None
first_outside set place (val ∷ vals) =
    if is_within set val then first_outside set (suc place) vals else Some place

-- the function that an instance exports under a name, for arguments of the store
abbrev pub for_params : Machine → List Val → Result (Option Func) Refusal → Result Func PluginFault
for_params m params (Ok (Some f)) =
    if list_all (owns_val m) params then Ok f else Err (fault.Refused refusal.WrongStore)
for_params m params (Ok None) = Err (fault.Refused refusal.NoExport)
for_params m params (Err why) = Err (fault.Refused why)

abbrev pub exported : Machine → List ℕ → List Val → ℕ → Result Func PluginFault
exported m name params guest = for_params m params (export_as extern_func m (instance_of m.id guest) name)

abbrev pub of_guest : Option ℕ → (ℕ → Result Func PluginFault) → Result Func PluginFault
of_guest None gives = Err fault.NoGuest
of_guest (Some guest) gives = gives guest

-- the guest is there, it exports a function under the name, and the arguments are of the store
abbrev pub callee : Machine → List ℕ → ℕ → List ℕ → List Val → Result Func PluginFault
callee m guests guest name params = of_guest (slice_get guests guest) (exported m name params)

abbrev pub none_foreign : Result Func PluginFault → Option ℕ → Result Func PluginFault
none_foreign (Ok f) (Some place) = Err (fault.Foreign place)
none_foreign due foreign = due

abbrev pub reached_by : Machine → List ℕ → List Val → ℕ → Result Func PluginFault
reached_by m name params guest = none_foreign (exported m name params guest) (first_outside (reach_of m guest) 0 params)

-- and it reaches each function among the arguments
abbrev pub may_call : Machine → List ℕ → ℕ → List ℕ → List Val → Result Func PluginFault
may_call m guests guest name params = of_guest (slice_get guests guest) (reached_by m name params)

-- ---- what is answered

-- what is due is answered, or that there was no memory to find it out
abbrev pub Answers : {A : Type 0} → Result A PluginFault → Result A PluginFault → Type 0
Answers due result = (result ≡ due) ⊎ (result ≡ Err fault.OutOfMemory)

-- the same of a fault, by a call of another kind of answer
abbrev pub Refuses : {A : Type 0} → PluginFault → Result A PluginFault → Type 0
Refuses why result = Answers (Err why) result

-- the refusal of a call on a store, as it is told of a guest
abbrev pub told_fault : Refusal → PluginFault
told_fault refusal.OutOfMemory = fault.OutOfMemory
told_fault why = fault.Refused why
