-- What a step of a host function's body sees, as the code lends it. This project's own.
use Rattle.std.specs.Prelude.{ℕ, nat_eq, Bool, ◌&&◌, false, if◌then◌else◌, List, [], ◌∷◌, Option, Some, None, option_and_then}
use Rattle.std.specs.List.{list_any}
use Rattle.std.specs.Str.{bytes_eq}
use Rattle.wasm_syntax.specs.declared.declarations.ExportDecl.{ExportDecl}
use Rattle.wasm_syntax.specs.declared.declarations.ModuleDecl.{ModuleDecl}
use Rattle.wasm_syntax.specs.declared.entities.EntityIndex.{EntityIndex}
use Rattle.wasm_syntax.specs.declared.entities.EntityIndex.TheVariants as entity
use Rattle.wasm_syntax.specs.declared.entities.ModuleExport.{ModuleExport}
use Rattle.wasm_values.specs.declared.externals.Extern.{Extern}
use Rattle.wasm_values.specs.declared.values.Val.{Val}
use Rattle.spec_machine.specs.Machine.{Machine}
use Rattle.spec_machine.specs.declared.reply.Reply.{Reply}
use Rattle.spec_execution.specs.Activations.{caller_of, told_fuel}
use Rattle.spec_execution.specs.Askings.{View, Caller, Exported}
use Rattle.wasm_host.specs.StoreViews.{store_of}
use Rattle.wasm_host.specs.declared.caller.Caller.{Caller as Lent}

-- what is seen of a store and of a function of the host: its arguments, the objects stored with it, the replies to its
-- operations, and the number of the instance whose code called it
abbrev pub looks : Machine → List Val → List Extern → List Reply → Option ℕ → View
looks m arguments stored replies caller = record {
  arguments = arguments;
  stored = stored;
  replies = replies;
  caller = caller_of m caller;
  engine = m.engine;
  fuel = told_fuel m;
}

abbrev pub seen : {T : Type 0} → Lent T → View
seen c = looks (store_of c.store) c.args.now c.stored.now c.replies.now c.instance

-- ---- the exports that are seen

-- the first of a name
abbrev pub export_named : List ℕ → List Exported → Option Exported
export_named name [] = None
export_named name (e ∷ more) = if bytes_eq e.name name then Some e else export_named name more

-- the object that the instance exports under a name, where code called
abbrev pub object_named : Option Caller → List ℕ → Option Extern
object_named caller name =
    option_and_then (λ (c : Caller). option_and_then (λ (e : Exported). e.object) (export_named name c.exports)) caller

abbrev pub is_entity : EntityIndex → EntityIndex → Bool
is_entity (entity.Func k) (entity.Func n) = nat_eq k n
is_entity (entity.Table k) (entity.Table n) = nat_eq k n
is_entity (entity.Memory k) (entity.Memory n) = nat_eq k n
is_entity (entity.Global k) (entity.Global n) = nat_eq k n
is_entity (entity.Tag k) (entity.Tag n) = nat_eq k n
is_entity e f = false

-- one of these exports names this
abbrev pub exports_entity : EntityIndex → List ExportDecl → Bool
exports_entity wanted exports = list_any (λ (e : ExportDecl). is_entity e.entity wanted) exports

-- a module has this export
abbrev pub is_export_of : ModuleDecl → ModuleExport → Bool
is_export_of decl export = nat_eq decl.number export.«module» && exports_entity export.entity decl.exports

-- the first that names this
abbrev pub export_of : EntityIndex → List Exported → Option Exported
export_of wanted [] = None
export_of wanted (e ∷ more) = if is_entity e.entity wanted then Some e else export_of wanted more

-- the object of an export of the module of this number
abbrev pub object_in : ModuleExport → Caller → Option Extern
object_in export c =
    if nat_eq c.number export.«module» then
    option_and_then (λ (e : Exported). e.object) (export_of export.entity c.exports) else None

abbrev pub object_of : Option Caller → ModuleExport → Option Extern
object_of caller export = option_and_then (object_in export) caller
