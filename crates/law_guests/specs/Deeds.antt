-- What a host does with a store, one after another, and what stays as it was meanwhile. This project's own.
use Rattle.std.specs.Prelude.{◌≡◌, ℕ, true, false, List, [], ◌∷◌, flat_map, Option, None, Ok}
use Rattle.wasm_types.specs.Each.{Each}
use Rattle.wasm_syntax.specs.Modules.{IsModule}
use Rattle.wasm_syntax.specs.declared.declarations.ModuleDecl.{ModuleDecl}
use Rattle.wasm_values.specs.declared.externals.Extern.{Extern}
use Rattle.wasm_values.specs.declared.handles.Func.{Func}
use Rattle.wasm_values.specs.declared.store_id.StoreId.{StoreId}
use Rattle.wasm_values.specs.declared.values.Val.{Val}
use Rattle.spec_machine.specs.FunctionCalls.{Called, called}
use Rattle.spec_machine.specs.Machine.{Machine}
use Rattle.spec_machine.specs.Names.{Scope}
use Rattle.spec_machine.specs.declared.command.Command.{Command}
use Rattle.spec_execution.specs.Bodies.{exec}
use Rattle.spec_execution.specs.Commands.{command}
use Rattle.spec_execution.specs.Instantiation.{instantiate}
use Rattle.spec_execution.specs.Outcomes.{World}
use Rattle.spec_execution.specs.Runs.{outermost_call}
use Rattle.spec_reach.specs.Nodes.{Node, instance, has, is_there}
use Rattle.spec_reach.specs.Reach.{in_object, reach}
use Rattle.spec_reach.specs.Roots.{roots, call_roots}
use Rattle.law_store.specs.Rows.{IsTyped}
use Rattle.law_code.specs.Laws.{MayBegin}
use Rattle.law_confined.specs.Laws.{left, left_by, all_roots}
use Rattle.law_plugins.specs.Meeting.{is_private, reach_of, AreApart, IsSameObject, KeepsGuest}
use Rattle.law_guests.specs.Enclosed.{IsEnclosed}

-- a call of a function from outside of all code, an instantiation, or a command of a session over these modules
pub data Deed : Type 0 where
  Calls : Called → Deed
  Makes : ModuleDecl → List Extern → Deed
  Does : List ModuleDecl → Scope → Command → Deed

-- the world that it leaves, however it ends
abbrev pub behind : Deed → World → World
behind (Calls c) w = left (outermost_call w c)
behind (Makes d imports) w = left (instantiate exec 0 w d imports)
behind (Does modules s c) w = left_by (command exec modules s c w)

-- what it is given: the function and the functions among the arguments, the imports, or what a command names
abbrev pub given : StoreId → Deed → List Node
given id (Calls c) = call_roots c.function c.arguments None
given id (Makes d imports) = flat_map (in_object id) imports
given id (Does modules s c) = roots id s c

-- what it reaches: all that leads from what it is given, and from the functions that bodies of the host handed out
-- meanwhile and were not shown
abbrev pub reached : World → Deed → List Node
reached w deed = reach w.machine (all_roots (given w.machine.id deed) w (behind deed w))

-- the conditions of a call hold, modules are valid, and types are types
pub record IsCallable (m : Machine) (c : Called) : Type 0 where
  pub func : Func
  pub arguments : List Val
  pub wanted : Option ℕ
  pub conditions : called m func arguments wanted ≡ Ok c

abbrev pub MayBeDone : Machine → Deed → Type 0
MayBeDone m (Calls c) = IsCallable m c
MayBeDone m (Makes d imports) = IsModule d
MayBeDone m (Does modules s c) = Each modules IsModule × IsTyped c

-- it begins over this store, with whatever turns and answers
pub record Begins (m : Machine) (w : World) (deed : Deed) : Type 0 where
  pub over : w.machine ≡ m
  pub may : MayBegin w
  pub conditions : MayBeDone m deed

-- deeds one after another, from one store to another: each begins over the store that the one before left
abbrev pub Follow : Machine → List (World × Deed) → Machine → Type 0
Follow m [] after = after ≡ m
Follow m (d ∷ deeds) after = Begins m d.0 d.1 × Follow (behind d.1 d.0).machine deeds after

-- ---- what stays

-- an object that is there is the same at the end, where none of the deeds reached it; a function and a constant global are
-- so whatever is reached
abbrev pub UnreachedIsSame : Type 0
UnreachedIsSame =
    (m after : Machine) (deeds : List (World × Deed)) (x : Node) → Follow m deeds after → is_there m x ≡ true
    → (is_private m x ≡ true → Each deeds (λ d. has (reached d.0 d.1) x ≡ false)) → IsSameObject m after x

-- each of the deeds reaches nothing of a set but what all may share
abbrev pub AreApartFrom : List Node → List (World × Deed) → Type 0
AreApartFrom set deeds = Each deeds (λ d. AreApart d.0.machine (reached d.0 d.1) set)

-- a set that is enclosed is so at the end, and each object in it is the same, where no deed reached it
pub record StaysEnclosed (m after : Machine) (set : List Node) : Type 0 where
  pub enclosed : IsEnclosed after set
  pub objects : (x : Node) → has set x ≡ true → IsSameObject m after x

abbrev pub UnreachedStaysEnclosed : Type 0
UnreachedStaysEnclosed =
    (m after : Machine) (deeds : List (World × Deed)) (set : List Node) → Follow m deeds after → IsEnclosed m set
    → AreApartFrom set deeds → StaysEnclosed m after set

-- so a guest reaches the same at the end, and each object of it is the same, where no deed reached what it reaches
abbrev pub UnreachedGuestIsKept : Type 0
UnreachedGuestIsKept =
    (m after : Machine) (deeds : List (World × Deed)) (guest : ℕ) → Follow m deeds after
    → is_there m (instance guest) ≡ true → AreApartFrom (reach_of m guest) deeds → KeepsGuest m after guest
