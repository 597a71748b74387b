-- Guests of one store stay apart, whatever code one of them runs, and whoever is loaded beside them. This project's own.
use Rattle.std.specs.Prelude.{◌≡◌, ℕ, true, List, [], ◌∷◌, ◌++◌, length, flat_map, Option, Some, None, Ok, slice_get}
use Rattle.wasm_syntax.specs.Modules.{IsModule}
use Rattle.wasm_syntax.specs.declared.declarations.ModuleDecl.{ModuleDecl}
use Rattle.wasm_values.specs.declared.externals.Extern.{Extern}
use Rattle.wasm_values.specs.declared.handles.Func.{Func}
use Rattle.wasm_values.specs.declared.values.Val.{Val}
use Rattle.spec_machine.specs.FunctionCalls.{Called, called}
use Rattle.spec_machine.specs.Machine.{Machine}
use Rattle.spec_execution.specs.Askings.{Asking, Outside, Relations, Moves, Chain}
use Rattle.spec_execution.specs.Bodies.{exec}
use Rattle.spec_execution.specs.Instantiation.{instantiate}
use Rattle.spec_execution.specs.Outcomes.{World}
use Rattle.spec_execution.specs.Runs.{outermost_call}
use Rattle.spec_reach.specs.Nodes.{Node, instance, has, is_there}
use Rattle.spec_reach.specs.Reach.{in_object, reach}
use Rattle.spec_reach.specs.Roots.{call_roots}
use Rattle.law_code.specs.Laws.{MayBegin}
use Rattle.law_confined.specs.Laws.{left, heard_since}
use Rattle.law_confined.specs.RunLaws.{IsShown}
use Rattle.law_plugins.specs.Meeting.{reach_of, first_meeting, GuestsAreApart, KeepsGuest}

-- all that these roots name is reached by a guest
abbrev pub IsWithin : Machine → List Node → ℕ → Type 0
IsWithin m from guest = (x : Node) → has from x ≡ true → has (reach_of m guest) x ≡ true

-- guests are apart still, and each but the one at a place is kept
pub record KeepsOthers (m after : Machine) (guests : List ℕ) (place : ℕ) : Type 0 where
  pub apart : GuestsAreApart after guests
  pub kept : (i g : ℕ) → (i ≡ place → ⊥) → slice_get guests i ≡ Some g → KeepsGuest m after g

-- a call of what one of them reaches, on arguments that it reaches
abbrev pub CallsKeepOthers : Type 0
CallsKeepOthers =
    (w : World) (f : Func) (args : List Val) (wanted : Option ℕ) (c : Called) (guests : List ℕ) (place guest : ℕ)
    → MayBegin w → called w.machine f args wanted ≡ Ok c → GuestsAreApart w.machine guests
    → slice_get guests place ≡ Some guest → IsWithin w.machine (call_roots c.function c.arguments None) guest
    → IsShown (heard_since w (left (outermost_call w c)))
    → KeepsOthers w.machine (left (outermost_call w c)).machine guests place

-- guests are apart still, each is kept, and one whose instance is made behind those that were there is apart from each
pub record KeepsAll (m after : Machine) (guests : List ℕ) : Type 0 where
  pub apart : GuestsAreApart after guests
  pub kept : (i g : ℕ) → slice_get guests i ≡ Some g → KeepsGuest m after g
  pub one_more :
      is_there after (instance (length m.instances)) ≡ true → GuestsAreApart after (guests ++ length m.instances ∷ [])

-- an instantiation over imports that lead to nothing that a guest reaches
abbrev pub LoadsKeepAll : Type 0
LoadsKeepAll =
    (w : World) (d : ModuleDecl) (imports : List Extern) (guests : List ℕ) → MayBegin w → IsModule d
    → GuestsAreApart w.machine guests
    → first_meeting w.machine (reach w.machine (flat_map (in_object w.machine.id) imports)) guests ≡ None
    → IsShown (heard_since w (left (instantiate exec 0 w d imports)))
    → KeepsAll w.machine (left (instantiate exec 0 w d imports)).machine guests

-- ---- what such a host hands out

-- in whatever is heard of what is outside, in any chain of questions, bodies hand out no function that they were not shown
abbrev pub NothingIsUnshown : {T H E : Type 0} → Relations T H E → Type 0
NothingIsUnshown {T} {H} {E} r =
    (old new : Outside T H E) (heard : List Asking) → Chain (Moves r) old heard new → IsShown heard
